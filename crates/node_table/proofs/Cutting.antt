-- A cut on the slots: the table after it is sound, and is what a cut makes of it.
use Rattle.node_table.proofs.Common.{Cuts, Edits, IsSome, IsSound, Joins, List, NodeKey, None, Row, Slab, Slot, Some, ap, core_of}
use Rattle.node_table.proofs.Common.{entry_in, get, is_some, loosened, next_in, option_map, parent_of, prev_in, refl, row_at}
use Rattle.node_table.proofs.Common.{slice_index_or, stamp_in, table_in, table_of, ℕ, ◌∙◌, ◌≡◌}
use Rattle.node_table.proofs.Slots.{option_map-keeps}
use Rattle.node_table.proofs.Steps.{kinds, part-kept}
use Rattle.node_table.proofs.Cuts.{sound-cut, cuts}
use Rattle.node_table.proofs.Leaving.{each-root, each-joined, rows-left, chained-left}

module _ {N : Type 0} (old mid : Slab (Slot N)) (nexts : List ℕ) (first count limit : ℕ) (key : NodeKey)
    (sound : IsSound old.slots nexts first count limit)
    (there : IsSome (row_at (table_of old.slots nexts first limit) key))
    (edits : Edits old mid key.slot loosened)
  where
    -- the cut was made, and the table is sound
    abbrev pub IsCut : Slab (Slot N) → Type 0
    IsCut new =
        IsSound new.slots nexts first count limit × Cuts (table_in old nexts first limit) (table_in new nexts first limit) key

    -- an entry was changed, and the vacant slot is what it was
    same : mid.vacant_key ≡ old.vacant_key
    same = ap (λ (s : Slab (Slot N)). s.vacant_key) edits.becomes

    -- every entry keeps its generation
    stamps : (i : ℕ) → stamp_in (entry_in (get mid i)) ≡ stamp_in (entry_in (get old i))
    stamps = part-kept old mid key.slot loosened edits stamp_in (λ e. refl)

    -- a root leaves none
    pub root-cut : None ≡ parent_of old.slots key.slot → IsCut mid
    root-cut was =
        let alike : (i : ℕ) → is_some (slice_index_or mid.slots i None) ≡ is_some (slice_index_or old.slots i None) =
        kinds old mid key.slot loosened edits in
        let each = each-root old mid nexts first count limit key sound there edits was in
        let rows = rows-left old mid nexts first count limit key sound there edits None was mid (λ i. refl) each in
        let chained = chained-left old mid nexts first count limit key sound there edits None was mid (λ i. refl) each in (
          sound-cut old.slots nexts first count limit None key sound there was mid.slots alike rows chained stamps,
          cuts old.slots nexts first count limit None key sound there was mid.slots alike rows chained old.vacant_key mid.vacant_key same,
        )

    -- a child leaves its siblings, which are joined
    pub child-cut : (above : NodeKey) → Some above ≡ parent_of old.slots key.slot → (new : Slab (Slot N))
        → Joins mid new above (prev_in old.slots key.slot) (next_in old.slots key.slot) → IsCut new
    child-cut above was new joins =
        let alike : (i : ℕ) → is_some (slice_index_or new.slots i None) ≡ is_some (slice_index_or old.slots i None) =
        λ i. joins.same_rows.kinds i ∙ kinds old mid key.slot loosened edits i in
        let cores : (i : ℕ) → option_map core_of (entry_in (get new i)) ≡ option_map core_of (entry_in (get mid i)) =
        λ i. joins.same_rows.cores i ∙ option_map-keeps (λ (row : Row N). row) (λ row. refl) (option_map core_of (entry_in (get mid i))) in
        let each = each-joined old mid nexts first count limit key sound there edits above was new joins in
        let rows = rows-left old mid nexts first count limit key sound there edits (Some above) was new cores each in
        let chained = chained-left old mid nexts first count limit key sound there edits (Some above) was new cores each in (
          sound-cut old.slots nexts first count limit (Some above) key sound there was new.slots alike rows chained
              (λ i. joins.same_rows.stamps i ∙ stamps i),
          cuts old.slots nexts first count limit (Some above) key sound there was new.slots alike rows chained old.vacant_key new.vacant_key
              (joins.same_rows.vacant_key ∙ same),
        )
