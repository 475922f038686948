pub mod Table
pub mod Changes
pub mod Forest
pub mod Lending
pub mod Sound
