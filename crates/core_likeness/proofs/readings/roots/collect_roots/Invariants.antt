use Rattle.core_likeness.proofs.Common.{Entry, filter_map, opened_by, take, ◌≡◌}
use Rattle.core_likeness.proofs.readings.roots.collect_roots.Given as goal

-- so far those of these entries
abbrev pub invariant-loop-entry : goal.invariant-loop-entry
invariant-loop-entry l = l.ids.items ≡ filter_map (λ (e : Entry). opened_by e.1 e.2) (take l.entry-index l.entries)
