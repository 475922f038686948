-- The entries of collections, and what is read of them.
pub mod Ordered
