use Rattle.core_likeness.proofs.Common.{collection_of_node, take, timeline, ℕ, ◌≡◌}
use Rattle.core_likeness.proofs.readings.tracking.collection_of.Given as goal

-- so far by these entries
abbrev pub invariant-loop-entry : goal.invariant-loop-entry
invariant-loop-entry l = (pool : ℕ) → l.found ≡ collection_of_node (timeline pool (take l.entry-index l.entries)) l.key
