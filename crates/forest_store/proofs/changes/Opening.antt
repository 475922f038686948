-- A collection to which an effect may be made, found at the place of its id.
use Rattle.forest_store.proofs.Common.{◌≡◌, ℕ, ◌==◌, List, get_or, Some, option_map, sym, ap, subst, ◌∙◌, find}
use Rattle.forest_store.proofs.Common.{Table, Change, Entry, Node, Unit, IsStored, CollectionRow, forest_of, row_of}
use Rattle.forest_store.proofs.Common.{rows_of, AreCounted, IsCounted, MayChange, HaveUnits, IsOpen}
use Rattle.forest_store.proofs.rows.Entries.{IsPlace}
use Rattle.forest_store.proofs.rows.Showing.{row_found}
use Rattle.forest_store.proofs.quiescence.Watched.{found_counted}

module _ (t : Table Node) (es : List Entry) (id at : ℕ) (old : Entry) (place : IsPlace id es at) (is : old ≡ get_or es at old)
    (kept : IsStored t (rows_of es)) (all : AreCounted t es) (us : List Unit) (units : HaveUnits us t es) (change : Change)
    (may : MayChange (forest_of t (rows_of es)) id change) where
  -- the entry at the place is counted, as each is, and its row is found
  pub opens_at : IsOpen t us (rows_of es) (row_of old) change old.strong
  opens_at =
      let own_id : old.id ≡ id = ap (λ (e : Entry). e.id) is ∙ place.id_is old in
      let found : find (λ (e : Entry). e.id == id) es ≡ Some old = place.found old ∙ ap Some (sym is) in
      let counted : IsCounted t old = found_counted t _ _ _ all found in
      record {
        kept = kept;
        found = subst (λ (i : ℕ). find (λ (x : CollectionRow). x.id == i) (rows_of es) ≡ Some (row_of old)) (sym own_id) (row_found id es
            ∙ ap (option_map row_of) found);
        may = rw own_id may;
        calm = counted.calm;
        strong = counted.strong;
        units = units;
      }
