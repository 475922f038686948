-- What an event makes of the clients.
pub mod Joining
pub mod NextRows
pub mod Numbers
pub mod Rows
