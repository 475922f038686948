use Rattle.forest_store.proofs.Common.{Entry, ◌≡◌, take, flat_map}
use Rattle.forest_store.proofs.lookup.held_by_page.Given as goal

-- so far the buffers of these entries
abbrev pub invariant-loop-entry : goal.invariant-loop-entry
invariant-loop-entry l = l.held.items ≡ flat_map (λ (e : Entry). e.held.items) (take l.entry-index l.entries)
