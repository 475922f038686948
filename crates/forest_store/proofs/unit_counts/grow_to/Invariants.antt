use Rattle.forest_store.proofs.Common.{◌+◌, ◌-◌, vec_len, Extends}
use Rattle.forest_store.proofs.unit_counts.grow_to.Given as goal

-- the list is as long at least, and counts what it did
abbrev pub invariant-on : goal.invariant-on
invariant-on l = record { extends : Extends l.initial.units.items l.units.items }

-- one slot is added at a time
abbrev pub decreases-on : goal.decreases-on
decreases-on l = l.slot + 1 - vec_len l.units
