use Rattle.core_likeness.proofs.Common.{AreCounted, new_id, take}
use Rattle.core_likeness.proofs.handles.are_counted.Given as goal

-- so far those of these entries are
abbrev pub invariant-loop-entry : goal.invariant-loop-entry
invariant-loop-entry l = AreCounted l.sides.one.now.holds l.sides.other.now.holds (new_id l.sides.names.now) l.sides.is_old (take
    l.entry-index l.entries)
