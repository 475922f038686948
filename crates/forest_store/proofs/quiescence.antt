-- The forced steps, and where none applies.
pub mod Calming
pub mod Forcing
pub mod Keeping
pub mod Resting
pub mod Steps
pub mod Together
pub mod United
pub mod Watched
