pub mod Events
pub mod Vanishes
pub mod Vanishing
pub mod Phases
