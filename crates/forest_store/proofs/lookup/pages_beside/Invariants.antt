use Rattle.forest_store.proofs.Common.{Entry, ◌≡◌, ◌==◌, not, take, filter, flat_map, pages_held}
use Rattle.forest_store.proofs.lookup.pages_beside.Given as goal

-- so far the pages of the others among these entries
abbrev pub invariant-loop-entry : goal.invariant-loop-entry
invariant-loop-entry l = l.pages.items
    ≡ flat_map (λ (e : Entry). pages_held e.held.items) (filter (λ (e : Entry). not (e.id == l.id)) (take l.entry-index l.entries))
