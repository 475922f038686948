-- Lists and tests, whatever they are of.
pub mod Booleans
pub mod Elements
pub mod ByPage
pub mod Filters
pub mod Growth
pub mod Lookups
pub mod SameIntervals
pub mod StableSort
