pub mod Changes
pub mod Closing
pub mod Ends
pub mod Faults
pub mod Searches
pub mod Vanishings
