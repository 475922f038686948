pub mod Comparisons
pub mod Explanations
pub mod Progress
pub mod ExplainedLines
