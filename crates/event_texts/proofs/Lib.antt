mod Common
pub mod Failing
pub mod Keeping
pub mod Loops
pub mod Losing
pub mod Marks
pub mod Pieces
pub mod Refusing
pub mod Told
