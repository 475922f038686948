pub mod WaitIndex
pub mod Held
pub mod Row
pub mod RowStates
pub mod Sources
pub mod Places
pub mod Table
