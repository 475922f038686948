pub mod Exploring
pub mod Reading
