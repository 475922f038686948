pub mod Changes
pub mod Counts
pub mod Gains
pub mod Kinds
pub mod Pages
pub mod Rows
pub mod Sums
