mod Common
mod Backs
mod Blocking
mod Filling
mod Finding
mod Gaps
mod Greatest
mod HeldRuns
mod Joins
mod Keeping
pub mod Least
mod Lengths
mod Orders
mod Passing
mod Placing
pub mod Runs
mod Searches
mod Sounds
mod Spaces
mod Taking
mod Touching
