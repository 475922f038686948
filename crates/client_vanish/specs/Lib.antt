pub mod Faults
pub mod Gatherings
pub mod Vanishings
pub mod Stacks
