pub mod ActorLists
pub mod ActorStates
pub mod ScriptRuns
pub mod Reads
pub mod Steps
pub mod Tables
