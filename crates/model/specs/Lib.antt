pub mod State
pub mod Weights
pub mod Summary
pub mod Sound
pub mod Table
pub mod Answers
