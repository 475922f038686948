mod Common
pub mod ComingLaws
pub mod MarkLaws
pub mod MoveLaws
pub mod SoundLaws
pub mod UnitLaws
