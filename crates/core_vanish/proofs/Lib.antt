mod Common
pub mod HeldEnds
pub mod VanishEvents
pub mod VanishSteps
pub mod StepLemmas
pub mod PhaseLemmas
pub mod AllGone
pub mod StateReads
pub mod PhaseSteps
pub mod VanishParts
