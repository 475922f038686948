pub mod Endings
pub mod Explored
pub mod Searches
