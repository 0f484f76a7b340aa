mod Positions
mod Climbing
mod Lineages
