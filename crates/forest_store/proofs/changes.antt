-- A change to a collection, and how it is put back.
pub mod Altering
pub mod Effecting
pub mod Finishing
pub mod Opening
