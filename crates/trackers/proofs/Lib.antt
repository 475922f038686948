mod Common
pub mod AttachLemmas
pub mod DetachLemmas
pub mod IndexLemmas
pub mod FiringLemmas
pub mod ForgetLemmas
pub mod FoundLemmas
pub mod HeldLemmas
pub mod PlaceLemmas
pub mod SlotLemmas
pub mod SweepLemmas
pub mod Walks
