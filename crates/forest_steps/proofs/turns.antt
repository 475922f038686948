-- Nodes that stand by birth, each behind its parent.
pub mod Gifts
pub mod Grown
pub mod Places
