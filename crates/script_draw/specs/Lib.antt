pub mod Draws
pub mod Played
pub mod Reached
