pub mod Fitting
pub mod Holdings
pub mod Holes
pub mod Lengths
pub mod Looks
pub mod Merging
pub mod Placing
pub mod Rows
