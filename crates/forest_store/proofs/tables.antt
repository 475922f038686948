-- Nodes in the table: what lies above them, and those that are written, hung on or taken out.
pub mod Chains
pub mod Hanging
pub mod KeptRoots
pub mod Kin
pub mod LeftParents
pub mod Rooted
pub mod Storing
pub mod TakingOut
pub mod Walking
pub mod Writing
