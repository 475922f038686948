-- What is forgotten.
pub mod EntryAt
pub mod Forgotten
pub mod KeyMoves
pub mod Noted
pub mod OnlyNoted
pub mod Places
pub mod Thinning
pub mod Tidying
