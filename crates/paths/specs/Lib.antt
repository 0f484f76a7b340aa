pub mod Path
pub mod Hierarchy
pub mod Laws
pub mod Meaning
