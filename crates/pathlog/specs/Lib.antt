pub mod Lines
pub mod Feeds
