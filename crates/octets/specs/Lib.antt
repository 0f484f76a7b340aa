pub mod Octets
pub mod Laws
pub mod Meaning
