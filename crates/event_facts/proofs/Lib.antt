mod Common
pub mod Copied
