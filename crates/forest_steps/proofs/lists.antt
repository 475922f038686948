-- Lists and tests, whatever they are of.
pub mod ByKey
pub mod Ranges
pub mod Removed
