pub mod Layouts
pub mod Lengths
