pub mod DraftLaws
pub mod MadeLaws
pub mod ReplyLaws
pub mod TakeLaws
