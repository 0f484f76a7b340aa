mod Parents
mod Walk
mod Levels
