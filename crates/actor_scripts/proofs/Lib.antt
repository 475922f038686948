mod Common
pub mod Blocks
pub mod FitLaws
pub mod Lines
pub mod StepLaws
pub mod TableLaws
pub mod ListedLaws
