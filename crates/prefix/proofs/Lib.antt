pub mod Orders
pub mod Names
