pub mod Renamed
pub mod Alike
pub mod Mixed
pub mod Cores
