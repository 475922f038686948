-- What an event makes of the nodes of a collection.
pub mod Ancestors
pub mod Answered
pub mod Called
pub mod Marks
pub mod Members
pub mod Misused
pub mod Newborn
pub mod Unborn
