use Rattle.event_laws.proofs.Common.{SET_BITS, indices_below, length, ◌-◌, ◌≡◌, ◌≤◌}
use Rattle.event_laws.proofs.amounts.size_of.Given as goal

-- the indices looked at so far are counted
abbrev pub invariant-loop-index : goal.invariant-loop-index
invariant-loop-index l = (l.index ≤ SET_BITS) × (l.size ≡ length (indices_below l.index l.set))

abbrev pub decreases-loop-index : goal.decreases-loop-index
decreases-loop-index l = SET_BITS - l.index
