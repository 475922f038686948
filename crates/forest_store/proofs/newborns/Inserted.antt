-- The node of a birth is drafted, and inserted among those of its collection or as its first.
use Rattle.forest_store.proofs.Common.{IfOk, IfSome, IsSome, row_at, ◌≡◌, ℕ, ◌≤◌, false, if◌then◌else◌, List, length, get_or}
use Rattle.forest_store.proofs.Common.{set, Some, None, option_map, OnErr, Result, sym, ◌∙◌, ap, option_and_then, option_map_or}
use Rattle.forest_store.proofs.Common.{NodeKey, Table, node_at, Entry, Node, AreCounted, Bears, IsStored, MayChange, forest_of}
use Rattle.forest_store.proofs.Common.{named, no_key, no_row, place_in, put_in, row_of, row_with, rows_of}
use Rattle.forest_store.specs.declared.insertion.Birth.{Birth}
use Rattle.forest_store.specs.Insertion.{IsEntryWith, IsEntryWithout, IsInserted, IsRefused, KeepsNotes, birth_change, born_at}
use Rattle.forest_store.proofs.newborns.Entries.{among_counted, among_rows, by_both, first_counted}
use Rattle.forest_store.proofs.newborns.Entries.{first_rows, refused_counted, refused_rows, refused_two}
use Rattle.forest_store.proofs.newborns.Newborn.{Above, above_is, above_key, above_there}
use Rattle.forest_store.proofs.rows.Counted.{count_few}
use Rattle.forest_store.proofs.Basics.{IsPlace, born_parent, born_weak, filed_found}
use Rattle.forest_store.proofs.Basics.{found_counted, named_bears, none_in, place_is, row_found}

module _ {t : Table Node} (es : List Entry) (kept : IsStored t (rows_of es)) (id : ℕ) (b : Birth)
    (may : MayChange (forest_of t (rows_of es)) id (birth_change b)) {draft : Node} (is : draft ≡ born_at t id b no_key) where
  -- the node above, by what the change asks
  above : Above t (rows_of es) id b.parent (option_and_then (node_at t) b.parent)
  above = above_is t (rows_of es) kept id b.parent b.attached b.client b.event may

  -- the draft has the one above as its parent, which has a row
  pub parent_there : IfSome draft.parent (λ p. IsSome (row_at t p))
  parent_there =
      rw (ap (λ (n : Node). n.parent) is ∙ (born_parent _ _ id b.event b.client no_key ∙ above_key t _ kept _ _ _ above))
      (above_there _ _ _ _ _ above)

  -- it is as weak as that one
  weak : draft.weak ≡ option_map_or (λ (n : Node). n.weak) (option_and_then (node_at t) b.parent) false
  weak = ap (λ (n : Node). n.weak) is ∙ born_weak (option_and_then (node_at t) b.parent) b.attached id b.event b.client no_key

  -- under its key it is the node of the birth
  bears_it : {E : Type 0} (now : Table Node) (result : Result NodeKey E) → IfOk result (λ key. Bears t now (named key draft)) →
      IfOk result (λ key. Bears t now (born_at t id b key))
  bears_it now result = named_bears t now _ b.attached id b.event b.client _ draft is result

  module _ (counted : AreCounted t es) where
    -- the entry at its place
    module _ {at : ℕ} (told : place_in id es ≡ Some at) {old : Entry} (read : old ≡ get_or es at old) where
      -- the place is that of the first entry with the id
      place : IsPlace id es at
      place = place_is id es at told

      -- the entry counts no more strong nodes than it has, as it is counted
      pub few : old.strong ≤ length old.keys.items
      few =
          let found = place.found old ∙ ap Some (sym read) in
          count_few _ _ (filed_found t id (rows_of es) kept.filed _ (row_found id es ∙ ap (option_map row_of) found))
          (found_counted _ _ _ _ counted found)

      -- the node is inserted among those of the collection: the entry has its key and counts it
      pub inserted : {E : Type 0} (now : Table Node) (new : Entry) (result : Result NodeKey E) →
          IfOk result (λ key. Bears t now (named key draft)) → IfOk result (IsEntryWith old new draft) → KeepsNotes old new →
          IfOk result (IsInserted t now es (set es at new) id b)
      inserted now new result born entry notes = by_both result (bears_it now result born) entry (λ key bears entry. record {
        bears = bears;
        entries = among_rows t es kept counted id at told place old read key new entry.row;
        counted = among_counted t es kept counted id at told place old read key new entry.row now b.parent b.attached b.client
            b.event _ above bears (rw weak at entry.strong) notes.reserved notes.unkept_known notes.unkept;
      })

      -- or memory was refused: the entry has more room, and nothing else changed
      pub refused : {E : Type 0} (now : Table Node) (new : Entry) (result : Result NodeKey E) → OnErr result (now ≡ t) →
          OnErr result (IsEntryWithout old new) → KeepsNotes old new → OnErr result (IsRefused t now es (set es at new))
      refused now new result table entry notes = refused_two result table entry (λ table entry. record {
        table = table;
        entries = refused_rows t es kept counted id at told place old read new entry.row entry.strong notes.reserved
            notes.unkept_known notes.unkept;
        counted = refused_counted t es kept counted id at told place old read new entry.row entry.strong notes.reserved
            notes.unkept_known notes.unkept;
      })

    -- the node is inserted as the first of the collection, in an entry of its own
    pub inserted_first : {E : Type 0} (now : Table Node) (behind : List Entry) (result : Result NodeKey E) → place_in id es ≡ None →
        IfOk result (λ key. Bears t now (named key draft)) →
        IfOk result (λ key. (e : Entry) × (behind ≡ put_in e es) × (row_of e ≡ row_with (no_row id) key)
        × (e.strong ≡ (if draft.weak then 0 else 1)) × (e.reserved ≡ 0)) → IfOk result (IsInserted t now es behind id b)
    inserted_first now behind result none born entries = by_both result (bears_it now result born) entries (λ key bears e. record {
      bears = bears;
      entries = ap rows_of e.1 ∙ first_rows t es kept counted id (none_in id es none) key e.0 e.2;
      counted = rw e.1 (first_counted t es kept counted id (none_in id es none) key e.0 e.2 now b.parent b.attached b.client
          b.event _ above bears (rw weak at e.3) e.4);
    })
