-- What an event makes of the handles.
pub mod Counts
pub mod HeldNames
pub mod Movable
pub mod Moves
pub mod Opening
pub mod Places
pub mod Standing
pub mod Taken
pub mod ToOpen
pub mod Undoing
pub mod Untouched
