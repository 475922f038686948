mod Common
pub mod ClosingLaws
pub mod EndLaws
pub mod EndingLaws
pub mod OnWay
pub mod WayLaws
