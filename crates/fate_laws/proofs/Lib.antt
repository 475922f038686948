mod Common
pub mod Fell
pub mod Forced
pub mod Events
pub mod Histories
pub mod OneHistory
