pub mod ByEvent
pub mod HandleSums
pub mod Lines
pub mod Links
pub mod Members
pub mod Parts
pub mod Waiting
