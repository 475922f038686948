mod Common
pub mod Comings
pub mod CompanyLaws
pub mod EndLaws
pub mod Endings
pub mod EventMarks
pub mod Failing
pub mod JoinLaws
pub mod LeavingTurns
pub mod OncePlanLaws
pub mod OutcomeLaws
pub mod RecordPlays
pub mod ReportLaws
pub mod RunPlays
pub mod StrayLaws
pub mod VanishingTurns
