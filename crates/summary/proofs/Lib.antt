mod Parts
mod Counted
mod Steps
