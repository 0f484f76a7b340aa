pub mod Header
pub mod Text
