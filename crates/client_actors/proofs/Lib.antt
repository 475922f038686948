mod Common
pub mod ActorStepLaws
pub mod ObjectCallLaws
pub mod PatienceLaws
pub mod ScriptLaws
pub mod RunLaws
pub mod OnceLaws
