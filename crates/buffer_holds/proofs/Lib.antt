mod Common
pub mod Gaining
pub mod KindLemmas
pub mod Masks
pub mod Moves
pub mod Outcomes
pub mod PageLemmas
pub mod PageNames
pub mod RowLemmas
pub mod Runs
pub mod Seen
pub mod SetLemmas
pub mod Sound
pub mod SoundLemmas
pub mod Written
