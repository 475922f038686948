use Rattle.core_state.proofs.Common.{Counts, HasPlaces, Opens, SET_BITS, is_in_set_below, ◌≡◌, ◌≤◌}
use Rattle.core_state.proofs.handle_changes.close_below.Given as goal

-- the handles from the end on are closed
abbrev pub invariant-loop-end : goal.invariant-loop-end
invariant-loop-end l = (l.end ≤ SET_BITS) × (l.holds.limit ≡ l.fn.holds.limit)
    × ((before : Counts) → Opens before l.fn.holds l.client (is_in_set_below l.collection l.strength l.set l.fn.end) →
    Opens before l.holds l.client (is_in_set_below l.collection l.strength l.set l.end))
    × (HasPlaces l.fn.holds → HasPlaces l.holds)

abbrev pub decreases-loop-end : goal.decreases-loop-end
decreases-loop-end l = l.end
