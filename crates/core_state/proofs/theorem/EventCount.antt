-- There are as many events as calls.
use Rattle.core_state.proofs.Common.{Entry, List, [], arith, events, length, timeline, ℕ, ◌≡◌}
use Rattle.event_laws.proofs.MomentLaws.{events-fold}

-- the timeline of a history has an event for each call
pub events-timeline : (pool : ℕ) (history : List Entry) → events (timeline pool history) ≡ length history
events-timeline pool history = omega (arith, events-fold pool [] history)
