pub mod Company
pub mod Endings
pub mod Faults
pub mod Gathered
pub mod Reports
pub mod RunPlays
pub mod Runs
