pub mod Events
pub mod Facts
pub mod KeyMaps
pub mod Walks
