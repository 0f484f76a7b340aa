pub mod Split
pub mod Weight
