mod Common
pub mod Lists
pub mod Layers
pub mod Climbs
pub mod Descents
pub mod Reaches
pub mod Bounds
pub mod Rooms
