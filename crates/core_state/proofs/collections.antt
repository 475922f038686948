-- The collections of a core, by their ids.
pub mod ById
pub mod Elsewhere
pub mod ForcedApart
pub mod Ids
pub mod MarksApart
pub mod Pages
pub mod Replacing
pub mod Roots
