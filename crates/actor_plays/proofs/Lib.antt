mod Common
pub mod PlayLaws
pub mod PositionLaws
pub mod FallLaws
pub mod PassLaws
pub mod MoveLaws
