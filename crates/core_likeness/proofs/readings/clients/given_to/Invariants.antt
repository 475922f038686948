use Rattle.core_likeness.proofs.Common.{Entry, entry_mark, filter_map, given_at, take, ◌≡◌}
use Rattle.core_likeness.proofs.readings.clients.given_to.Given as goal

-- so far those of these entries
abbrev pub invariant-loop-entry : goal.invariant-loop-entry
invariant-loop-entry l = l.given.items ≡ filter_map (λ (e : Entry). given_at l.client (entry_mark e)) (take l.entry-index l.entries)
