pub mod Order
pub mod Name
pub mod Meaning
pub mod Laws
