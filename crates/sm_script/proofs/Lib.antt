pub mod Advancing
pub mod Playing
pub mod Running
pub mod Settings
pub mod Viewing
