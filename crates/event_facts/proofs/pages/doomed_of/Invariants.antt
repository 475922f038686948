use Rattle.std.proofs.Common.{ℕ, ◌≡◌, ◌<◌, ◌≤◌, Some, if◌then◌else◌}
use Rattle.std.specs.Int.{bit_at}
use Rattle.event_facts.specs.Events.{is_doomed_in}
use Rattle.event_facts.proofs.pages.doomed_of.Given as goal

-- of the indices so far those of doomed buffers are in the set, and none of the others
abbrev pub invariant-loop-index : goal.invariant-loop-index
invariant-loop-index l =
    ((i : ℕ) → i < l.index → bit_at l.set i ≡ (if is_doomed_in l.core.holds l.collection l.nodes (Some l.buffers) i then 1 else 0))
    × ((i : ℕ) → l.index ≤ i → bit_at l.set i ≡ 0)
