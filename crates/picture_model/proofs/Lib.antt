mod Common
pub mod Known
pub mod Lasts
pub mod Loops
pub mod Showing
pub mod Texts
