-- The entry at the place of a collection, of which the unkept nodes are taken out.
use Rattle.forest_store.proofs.Common.{◌≡◌, ℕ, ◌==◌, true, false, List, [], get_or, set, refl, Option, Some, None, option_map, sym, ◌∙◌}
use Rattle.forest_store.proofs.Common.{ap, subst, find, list_any, NodeKey, same_key, Table, node_at, Entry, Node, unkept_except, IsStored}
use Rattle.forest_store.proofs.Common.{CollectionRow, nodes_with, place_in, row_of, rows_of, is_unkept, get_or_default, AreCounted}
use Rattle.forest_store.proofs.Common.{Bool, IfSome, if◌then◌else◌, IsBareAt, get_or-set_same, IsForgettable, IsLeftIn}
use Rattle.forest_store.proofs.Common.{IsThinned, is_bare, left_at, thin_in, thinned, without_bare}
use Rattle.forest_store.proofs.leaving.Forgotten.{tidy_left}
use Rattle.forest_store.proofs.leaving.Places.{found_apart}
use Rattle.forest_store.proofs.allocation.Before.{key_listed}
use Rattle.forest_store.proofs.rows.Counted.{counted_thinned, dropped_all, drops_over}
use Rattle.forest_store.proofs.rows.Dropping.{keep_bare, keep_set, set_thin}
use Rattle.forest_store.proofs.rows.Entries.{place_set}
use Rattle.forest_store.proofs.tables.LeftParents.{in_row}
use Rattle.forest_store.proofs.Basics.{found_counted, found_filed, none_noted, IsPlace, place_is, row_found}

-- what a search of the same entries told holds of these
pub place_told : (id : ℕ) (es items : List Entry) (o place : Option ℕ) → items ≡ es → o ≡ place_in id items → o ≡ place →
    place_in id es ≡ place
place_told id es items o place same told is = sym (rw same at told) ∙ is

-- what holds at the place, if it is told, holds of what is told
pub at_place : (b : Bool) (at : ℕ) (Q : ℕ → Type 0) (o : Option ℕ) → o ≡ (if b then Some at else None) → (b ≡ true → Q at) → IfSome o Q
at_place true at Q o told holds = subst (λ (x : Option ℕ). IfSome x Q) (sym told) (holds refl)
at_place false at Q o told holds = subst (λ (x : Option ℕ). IfSome x Q) (sym told) tt

-- where no place is told, nothing says that it is one
pub no_place : (b : Bool) (at : ℕ) (o : Option ℕ) → o ≡ (if b then Some at else None) → o ≡ None → b ≡ false
no_place true at o told none = let no : Some at ≡ None = sym told ∙ none in absurd (cc)
no_place false at o told none = refl

module _ {t : Table Node} (es : List Entry) (kept : IsStored t (rows_of es)) (counted : AreCounted t es) (id : ℕ) {at : ℕ}
    (told : place_in id es ≡ Some at) {old : Entry} (read : old ≡ get_or es at old) where
  -- the place is that of the first entry with the id
  place : IsPlace id es at
  place = place_is _ _ at told

  -- whatever is read behind the last entry, it is the one at the place
  is : (d : Entry) → old ≡ get_or es at d
  is d = read ∙ get_or_default es at old d place.within

  -- the entry is found at its place
  found : find (λ (e : Entry). e.id == id) es ≡ Some old
  found = place.found old ∙ ap Some (sym read)

  -- the row is found where the entry is
  row : find (λ (x : CollectionRow). x.id == id) (rows_of es) ≡ Some (row_of old)
  row = row_found id es ∙ ap (option_map row_of) found

  -- the entry at the place has the id that was looked for
  own : old.id ≡ id
  own = ap (λ (e : Entry). e.id) read ∙ place.id_is old

  -- the entry is counted, which says so
  unkept_known : old.unkept_known ≡ true → list_any (unkept_except old.unkept.items) (nodes_with t old.keys.items) ≡ false
  unkept_known = (found_counted t _ _ _ counted found).unkept_known

  -- what the store says of each collection says it of this one
  pub forgettable : IsForgettable t old
  forgettable = record {
    named = kept.named;
    apart = found_apart id (rows_of es) (row_of old) kept.apart row;
    filed = found_filed t id (rows_of es) (row_of old) kept.filed row;
    all = λ key n at own_of. subst (λ (k : NodeKey). list_any (same_key k) old.keys.items ≡ true) (kept.named key n at)
        (key_listed t kept.named old.keys.items n
        (in_row t (rows_of es) kept id (row_of old) row key n at (own_of ∙ own)));
    unkept_known = unkept_known;
  }

  -- where it is known that no node is unkept, each key finds what is left
  pub left_known : (old.unkept_known ≡ true) × (old.unkept.items ≡ []) → IsLeftIn t t id (rows_of es)
  left_known known = record {
    look = λ s was k.
        let same : Some (row_of old) ≡ Some s = sym row ∙ was in
        let one : row_of old ≡ s = cc in
        tidy_left t s.keys (ap (λ (x : CollectionRow). list_any is_unkept (nodes_with t x.keys)) (sym one)
        ∙ none_noted (nodes_with t old.keys.items)
        (ap (λ (ks : List NodeKey). list_any (unkept_except ks) (nodes_with t old.keys.items)) (sym known.1)
        ∙ unkept_known known.0)) k;
    none = λ is. refl;
  }

  -- a collection that is not bare stays
  pub stays : is_bare (row_of old) ≡ false → without_bare id (rows_of es) ≡ rows_of es
  stays full = sym (keep_bare _ _ _ old kept.rising told (ap (λ (x : Entry). is_bare (row_of x)) (sym read) ∙ full))

  -- one that is bare stands there so
  pub bare_at : is_bare (row_of old) ≡ true → IsBareAt id at es
  bare_at bare = record { place = told; bare = λ d. ap (λ (e : Entry). is_bare (row_of e)) (sym (is d)) ∙ bare }

  module _ {now : Table Node} {new : Entry} (thins : IsThinned now old new)
      (look : (k : NodeKey) → node_at now k ≡ left_at t old.keys.items k) where
    -- the keys of the nodes that were taken out are dropped, and the rest stays
    thin_row : row_of new ≡ thinned now (row_of old)
    thin_row = λ i. record { id = thins.id i; keys = thins.keys i; buffers = thins.buffers i; held = (thins.held i).items }

    -- no other row changes
    pub rows_then : rows_of (set es at new) ≡ thin_in now id (rows_of es)
    rows_then = set_thin now _ _ _ _ kept.rising told (thin_row ∙ ap (λ (e : Entry). thinned now (row_of e)) (is new))

    -- each key finds what is left of the row that is found, and one is found
    pub left_then : IsLeftIn t now id (rows_of es)
    left_then = record {
      look = λ s was k.
          let same : Some (row_of old) ≡ Some s = sym row ∙ was in
          let one : row_of old ≡ s = cc in
          look k ∙ ap (λ (x : CollectionRow). left_at t x.keys k) one;
      none = λ none.
          let no : None ≡ Some (row_of old) = sym none ∙ row in
          absurd (cc);
    }

    -- each entry counts the nodes that are left of it
    pub counted_then : AreCounted now (set es at new)
    counted_then = counted_thinned t _ _ _ _ (λ within. rw (← (is new)) thins)
        (λ within k. look k ∙ ap (λ (e : Entry). left_at t e.keys.items k) (is new))
        (dropped_all _ now kept.named (drops_over t now _ look) _ kept.whole counted)

    -- a collection that is not bare then stays
    pub stays_then : is_bare (row_of new) ≡ false → without_bare id (rows_of (set es at new)) ≡ rows_of (set es at new)
    stays_then full = keep_set _ _ _ _ kept.rising told (thins.id ∙ own) full

    -- and one that is bare stands there so
    pub bare_then : is_bare (row_of new) ≡ true → IsBareAt id at (set es at new)
    bare_then bare = record {
      place = place_set id at es new (thins.id ∙ own) told;
      bare = λ d. ap (λ (e : Entry). is_bare (row_of e)) (get_or-set_same es at new d place.within) ∙ bare;
    }
