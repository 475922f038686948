pub mod Endings
pub mod Faults
pub mod Players
pub mod Runs
pub mod Scenes
pub mod Sessions
