mod Common
pub mod Listed
pub mod KnownLaws
pub mod StageLaws
