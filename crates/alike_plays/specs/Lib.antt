pub mod Actors
pub mod Names
pub mod Falls
pub mod AlikePlays
pub mod Closed
pub mod Ahead
pub mod Ways
