pub mod Reading
pub mod LastSlash
pub mod Order
pub mod Names
