use Rattle.forest_store.proofs.Common.{length}
use Rattle.forest_store.proofs.tables.Walking.{Walks}
use Rattle.forest_store.proofs.unkept.remove_unkept.Given as goal

-- the walk over the rest ends where the whole does
abbrev pub invariant-back : goal.invariant-back
invariant-back l = record { walks : Walks l.initial.table l.table l.keys l.rest }

-- each node is looked at once
abbrev pub decreases-back : goal.decreases-back
decreases-back l = length l.rest
