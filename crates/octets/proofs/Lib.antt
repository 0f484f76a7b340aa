pub mod Masks
pub mod Order
