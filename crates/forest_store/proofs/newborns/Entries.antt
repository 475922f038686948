-- The entries once a node is born of which nothing else follows.
use Rattle.forest_store.proofs.Common.{◌≡◌, ℕ, ◌+◌, ◌==◌, Bool, false, if◌then◌else◌, List, [], Option, Some, None, option_map}
use Rattle.forest_store.proofs.Common.{get_or, set, refl, sym, ap, subst, ◌∙◌, arith, find, list_any, option_map_or, NodeKey}
use Rattle.forest_store.proofs.Common.{Table, Entry, Node, strong_count, unkept_except, Collection, IsStored, CollectionRow}
use Rattle.forest_store.proofs.Common.{collection_in, forest_of, place_in, put_row, row_of, rows_of, reserved_count}
use Rattle.forest_store.proofs.Common.{collection_or_new, Result, Ok, Err, IfOk, get_or_default, unwrap_or, AreCounted}
use Rattle.forest_store.proofs.Common.{IsQuiescent, IsCounted, put_in, Bears, born, no_row, row_before, row_with, OnErr}
use Rattle.forest_store.proofs.newborns.Forest.{still_collection}
use Rattle.forest_store.proofs.rows.Counted.{counted_but, counted_put, counted_set, moved_all, counted_as, set_rows, rows_put}
use Rattle.forest_store.proofs.newborns.Newborn.{Above}
use Rattle.forest_store.proofs.newborns.Quiet.{counted_born}
use Rattle.forest_store.proofs.Basics.{IsPlace, set_put, collection_is, row_found, found_counted}

-- what two facts of a result make true of it
pub by_both : {A E : Type 0} {P Q R : A → Type 0} (r : Result A E) → IfOk r P → IfOk r Q → ((a : A) → P a → Q a → R a) → IfOk r R
by_both (Ok a) p q both = both a p q
by_both (Err e) p q both = tt

-- and of a refusal
pub refused_two : {A E : Type 0} {X Y Z : Type 0} (r : Result A E) → OnErr r X → OnErr r Y → (X → Y → Z) → OnErr r Z
refused_two (Ok a) x y all = tt
refused_two (Err e) x y all = all x y

-- how many strong nodes are born below this one
abbrev pub more_strong : Option Node → ℕ
more_strong above = if option_map_or (λ (n : Node). n.weak) above false then 0 else 1

module _ (t : Table Node) (es : List Entry) (ok : IsStored t (rows_of es)) (all : AreCounted t es) (id : ℕ) where
  -- the entry at its place
  module _ (at : ℕ) (told : place_in id es ≡ Some at) (place : IsPlace id es at) (old : Entry) (is : old ≡ get_or es at old) where
    -- the place is that of the first entry with the id
    found : find (λ (e : Entry). e.id == id) es ≡ Some old
    found = place.found old ∙ ap Some (sym is)

    -- the entry at the place has the id that was looked for
    old_id : old.id ≡ id
    old_id = ap (λ (e : Entry). e.id) is ∙ place.id_is old

    -- each entry is counted
    counted : IsCounted t old
    counted = found_counted t _ _ _ all found

    -- the count is no more than the keys
    before_is : row_before id (rows_of es) ≡ row_of old
    before_is = ap (λ (o : Option CollectionRow). unwrap_or o (no_row id)) (row_found id es ∙ ap (option_map row_of) found)

    -- the collection is there, so it is the one of the entry
    at_is : collection_or_new (forest_of t (rows_of es)) id ≡ collection_in t (row_of old)
    at_is = ap (λ (o : Option Collection). unwrap_or o (record { id = id; nodes = []; buffers = None; held = [] }))
        (collection_is t id _ ∙ ap (option_map (collection_in t)) (row_found id es ∙ ap (option_map row_of) found))

    -- where memory was refused
    module _ (new : Entry) (same : row_of new ≡ row_of old) (strong : new.strong ≡ old.strong)
        (reserved : new.reserved ≡ old.reserved) (unkept_known : new.unkept_known ≡ old.unkept_known)
        (unkept : new.unkept.items ≡ old.unkept.items) where
      -- a refusal keeps the row, so the list of rows stays
      pub refused_rows : rows_of (set es at new) ≡ rows_of es
      refused_rows = set_rows _ at new (λ within. same ∙ ap row_of (is ∙ get_or_default _ at old new within))

      -- a refusal keeps counts, notes and nodes
      pub refused_counted : AreCounted t (set es at new)
      refused_counted = grind (arith, counted_set, counted_as, counted)

    -- where the node was born
    module _ (key : NodeKey) (new : Entry) (row : row_of new ≡ row_with (row_of old) key) where
      -- the entry is set at the place of its id
      put_is : set es at new ≡ put_in new es
      put_is = set_put _ _ at ok.rising (rw (ap (λ (s : CollectionRow). s.id) row ∙ old_id) told)

      -- the row has one key more
      row_is : row_of new ≡ row_with (row_before id (rows_of es)) key
      row_is = row ∙ ap (λ (s : CollectionRow). row_with s key) (sym before_is)

      -- so the row with the key is put among them
      pub among_rows : rows_of (set es at new) ≡ put_row (row_with (row_before id (rows_of es)) key) (rows_of es)
      among_rows = ap rows_of put_is ∙ rows_put new es ∙ ap (λ (s : CollectionRow). put_row s (rows_of es)) row_is

      module _ (now : Table Node) (parent : Option NodeKey) (attached : Bool) (client event : ℕ) (above : Option Node)
          (over : Above t (rows_of es) id parent above)
          (bears : Bears t now (born above attached id event client key))
          (strong : new.strong ≡ old.strong + more_strong above) (reserved : new.reserved ≡ old.reserved)
          (unkept_known : new.unkept_known ≡ old.unkept_known)
          (unkept : new.unkept.items ≡ old.unkept.items) where
        -- the others are counted as before, and the one with the new node by its own count
        pub among_counted : AreCounted now (set es at new)
        among_counted = subst (AreCounted now) (sym put_is)
            (counted_put _ _ _ ok.rising
            (counted_but _ new.id _ (moved_all t _ _ ok.filed (λ e filed. still_collection t now _ bears _ filed) all))
            (counted_born t now _ ok _ parent _ client event _ over _ bears
            (subst IsQuiescent (sym at_is) counted.calm) _ row_is
            (strong ∙ ap (λ (n : ℕ). n + more_strong above) (counted.strong ∙ ap (λ (c : Collection). strong_count c.nodes) (sym at_is)))
            (reserved ∙ counted.reserved ∙ ap (λ (c : Collection). reserved_count c.nodes) (sym at_is))
            (λ h. (λ i. list_any (unkept_except (unkept i)) (at_is i).nodes) ∙ counted.unkept_known (sym unkept_known ∙ h))))

  -- the first node of a collection
  module _ (none : find (λ (e : Entry). e.id == id) es ≡ None) (key : NodeKey) (new : Entry) (row : row_of new ≡ row_with
      (no_row id) key) where
    -- no entry has the id, so no row has it
    none_is : find (λ (s : CollectionRow). s.id == id) (rows_of es) ≡ None
    none_is = row_found id es ∙ ap (option_map row_of) none

    -- the first key is that of a new row
    first_is : row_of new ≡ row_with (row_before id (rows_of es)) key
    first_is = row ∙ ap (λ (o : Option CollectionRow). row_with (unwrap_or o (no_row id)) key) (sym none_is)

    -- a collection that is not there is a new one
    empty_is : collection_or_new (forest_of t (rows_of es)) id ≡ record { id = id; nodes = []; buffers = None; held = [] }
    empty_is = ap (λ (o : Option Collection). unwrap_or o (record { id = id; nodes = []; buffers = None; held = [] }))
        (collection_is t id _ ∙ ap (option_map (collection_in t)) none_is)

    -- the new row is put among them
    pub first_rows : rows_of (put_in new es) ≡ put_row (row_with (row_before id (rows_of es)) key) (rows_of es)
    first_rows = rows_put new es ∙ ap (λ (s : CollectionRow). put_row s (rows_of es)) first_is

    module _ (now : Table Node) (parent : Option NodeKey) (attached : Bool) (client event : ℕ) (above : Option Node)
        (over : Above t (rows_of es) id parent above)
        (bears : Bears t now (born above attached id event client key)) (strong : new.strong ≡ more_strong above)
        (reserved : new.reserved ≡ 0) where
      -- the others are counted as before, and the new one by its only node
      pub first_counted : AreCounted now (put_in new es)
      first_counted = counted_put now new es ok.rising
          (counted_but now new.id es (moved_all t now es ok.filed (λ e filed. still_collection t now _ bears (row_of e) filed) all))
          (counted_born t now (rows_of es) ok id parent attached client event above over key bears
          (subst IsQuiescent (sym empty_is) refl) new first_is
          (let base = ap (λ (c : Collection). strong_count c.nodes) empty_is in
          omega (arith, strong, base)) (reserved ∙ sym (ap (λ (c : Collection). reserved_count c.nodes) empty_is))
          (λ h. ap (λ (c : Collection). list_any (unkept_except new.unkept.items) c.nodes) empty_is))
