-- What a loss takes.
pub mod AllGone
pub mod Ties
