-- What is forgotten.
pub mod Emptying
pub mod Ends
pub mod Leaving
pub mod Spending
