pub mod Outcomes
pub mod Plans
