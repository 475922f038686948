pub mod ActorReasons
pub mod Faults
pub mod IndentedLines
pub mod Reasons
pub mod Streams
pub mod Takings
