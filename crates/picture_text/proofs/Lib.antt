pub mod Branches
pub mod Signs
