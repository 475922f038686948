pub mod Common
pub mod Outcomes
pub mod changes
pub mod leaving
pub mod mid_event
pub mod rows
