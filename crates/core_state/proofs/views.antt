-- What is read and seen of a core is what the marks tell.
pub mod AfterEvents
pub mod Ends
pub mod ForTrackers
pub mod Forests
pub mod Held
pub mod HeldApart
pub mod Live
pub mod Nodes
pub mod Readings
pub mod SameAnswers
pub mod Seen
pub mod Shown
