mod Common
pub mod Indexes
pub mod Rows
