-- What a loss takes.
pub mod GoneNodes
pub mod Written
