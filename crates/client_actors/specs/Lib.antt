pub mod ObjectCalls
pub mod ActorSteps
pub mod ActorEnds
pub mod PatientRuns
