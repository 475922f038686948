pub mod PictureStates
pub mod BoxLines
pub mod Colors
pub mod Features
pub mod Kin
pub mod Seen
pub mod Shown
pub mod Travels
