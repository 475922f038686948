-- A collection that is under way with no unit loose or due is calm, and a calm one is such.
use Rattle.forest_steps.proofs.Common.{◌≡◌, ◌<◌, ℕ, ◌==◌, refl, ap, sym, ◌∙◌, subst, true, false, inl, List, [], map, length}
use Rattle.forest_steps.proofs.Common.{get_or, Option, Some, None, find, list_any, option_map_or, NodeKey, Buffers, same_key}
use Rattle.forest_steps.proofs.Common.{In-list_any, In-any, Table, node_at, Entry, Node, Unit, AreUnits, waiting, IsStored, IsWhole}
use Rattle.forest_steps.proofs.Common.{CollectionRow, collection_in, nodes_with, place_in, row_of, rows_of, is_deserted_node}
use Rattle.forest_steps.proofs.Common.{is_next_node, Handles, AreCounted, IsCounted, HaveUnits, has_buffers, none_calm, found_whole}
use Rattle.forest_steps.proofs.Common.{counted_but, place_is, arith, MayClose, MidEvent, is_next_except, found_counted}
use Rattle.forest_steps.proofs.Common.{are_held_except, waits_among, unit_at, unit_of, In, in_all, all_at, In-map-back, In-find}
use Rattle.forest_store.proofs.quiescence.Calming.{later, AreNone, calm_none}
use Rattle.std.proofs.Math.Bool.{and-true}
use Rattle.sm_names.proofs.ListLaws.{find-none, none-find}
use Rattle.sm_names.proofs.SamenessLaws.{map-None}
use Rattle.forest_store.proofs.tallies.Holding.{held_where, none_deserted}
use Rattle.forest_steps.proofs.mid_event.Joining.{row_here}

-- ---- where no unit is due

-- a test that none is left out of is the test
next_none : (nodes : List Node) → list_any (is_next_except [] nodes) nodes ≡ list_any (is_next_node nodes) nodes
next_none nodes = λ i. list_any (λ n. and-true (is_next_node nodes n) i) nodes

-- none is due, so none waits
waits_none : (o : Option Node) → option_map_or (λ (n : Node). list_any (same_key n.key) []) o true ≡ true → o ≡ None
waits_none None h = refl
waits_none (Some n) h = let no : false ≡ true = h in absurd (cc)

-- the collection of the entry is whole
pub whole_under : {t : Table Node} {us : List Unit} {ss : List CollectionRow} {e : Entry} {unheld pending : List NodeKey} →
    MidEvent t us ss e unheld pending → IsWhole (collection_in t (row_of e))
whole_under {t} {ss} under = found_whole t _ ss _ under.store.kept.whole under.store.found

-- the slot of each node's key has the counts of the unit that it would head
pub unit_told : {t : Table Node} {us : List Unit} {ss : List CollectionRow} {e : Entry} {unheld pending : List NodeKey} →
    MidEvent t us ss e unheld pending → (m : Node) → In m (nodes_with t e.keys.items) →
    unit_at us m.key.slot ≡ unit_of (nodes_with t e.keys.items) m.key
unit_told {t} {ss} {e} u m on = (in_all _ _ (all_at _ _ u.store.units (collection_in t (row_of e))
    (In-map-back _ ss _ (In-find _ ss _ u.store.found).0)) m on).1

-- what is loose and what is due may be told otherwise, of the same store
pub under_with : {t : Table Node} {us : List Unit} {ss : List CollectionRow} {e : Entry} {unheld pending loose due : List NodeKey} →
    MidEvent t us ss e unheld pending → are_held_except loose (nodes_with t e.keys.items) ≡ true →
    list_any (is_next_except due (nodes_with t e.keys.items)) (nodes_with t e.keys.items) ≡ false →
    waits_among due (nodes_with t e.keys.items) ≡ true → MidEvent t us ss e loose due
under_with under held next root = record { store = under.store; bare = under.bare; held = held; next = next; root = root }

-- no node is deserted where no unit is loose
pub no_end_under : {t : Table Node} {us : List Unit} {ss : List CollectionRow} {e : Entry} {pending : List NodeKey} →
    MidEvent t us ss e [] pending →
    find (is_deserted_node (nodes_with t e.keys.items)) (nodes_with t e.keys.items) ≡ None
no_end_under {t} {e} under =
    let whole = whole_under under in
    let nodes = nodes_with t e.keys.items in
    find-none (is_deserted_node nodes) nodes
    (none_deserted nodes whole.sound.distinct whole.sound.heads whole.rooted whole.united under.held)

-- so no step is left but that its buffers may be abandoned
pub none_under : {t : Table Node} {us : List Unit} {ss : List CollectionRow} {e : Entry} → MidEvent t us ss e [] [] →
    AreNone (nodes_with t e.keys.items) e.buffers
none_under {t} {e} under = record {
  no_end = no_end_under under;
  no_root = waits_none (waiting (nodes_with t e.keys.items)) under.root;
  no_head = from e.buffers;
}
  where
    -- by cases on the buffers: no node is next
    from : (o : Option Buffers) → later (nodes_with t e.keys.items) o ≡ None
    from o = grind (arith, find-none, next_none)

-- and it is counted
pub counted_under : {t : Table Node} {us : List Unit} {ss : List CollectionRow} {e : Entry} → MidEvent t us ss e [] [] → IsCounted t e
counted_under {t} {e} under = record {
  calm = calm_none (collection_in t (row_of e)) (none_under under);
  strong = under.store.strong;
  reserved = under.store.reserved;
  unkept_known = under.store.unkept_known;
}

-- ---- the other way round

-- where no node has buffers, no unit is next
pub none_next : (nodes : List Node) → list_any has_buffers nodes ≡ false → list_any (is_next_node nodes) nodes ≡ false
none_next nodes none = grind (arith, In-any, In-list_any, none)

module _ {t : Table Node} (us : List Unit) {ss : List CollectionRow} {e : Entry} (kept : IsStored t ss)
    (found : find (λ (x : CollectionRow). x.id == e.id) ss ≡ Some (row_of e)) (counted : IsCounted t e) where
  -- the nodes that the table has under the entry's keys
  abbrev nodes : List Node
  nodes = nodes_with t e.keys.items

  -- each collection is whole
  whole : IsWhole (collection_in t (row_of e))
  whole = found_whole t _ ss _ kept.whole found

  -- a counted collection is calm
  none : AreNone (nodes_with t e.keys.items) e.buffers
  none = none_calm (collection_in t (row_of e)) counted.calm

  -- without buffers no unit is next; with them none is, as the collection is calm
  no_next : (o : Option Buffers) → (o ≡ None → list_any has_buffers nodes ≡ false) → later nodes o ≡ None →
      list_any (is_next_node nodes) nodes ≡ false
  no_next None bare h = none_next nodes (bare refl)
  no_next (Some b) bare h = none-find (is_next_node nodes) nodes (map-None _ _ h)

  -- a collection that is counted is so, where each slot is in the list, and no node has buffers where none were given
  pub under_counted : AreUnits us (map (collection_in t) ss) →
      ((key : NodeKey) (n : Node) → node_at t key ≡ Some n → key.slot < length us) →
      (e.buffers ≡ None → list_any has_buffers (nodes_with t e.keys.items) ≡ false) →
      MidEvent t us ss e [] []
  under_counted units inside bare = record {
    store = record {
      kept = kept;
      found = found;
      units = units;
      inside = inside;
      strong = counted.strong;
      reserved = counted.reserved;
      unkept_known = counted.unkept_known;
    };
    bare = bare;
    held = held_where nodes whole.sound.distinct whole.sound.heads whole.rooted whole.united
        (none-find (is_deserted_node nodes) nodes none.no_end);
    next = next_none nodes ∙ no_next _ bare none.no_head;
    root = rw none.no_root refl;
  }

-- the collection to which a change may be made
pub ready_under : {t : Table Node} (us : List Unit) (es : List Entry) (id : ℕ) {at : ℕ} (e : Entry) →
    place_in id es ≡ Some at → e ≡ get_or es at e →
    IsStored t (rows_of es) → AreCounted t es → HaveUnits us t es →
    ((key : NodeKey) (n : Node) → node_at t key ≡ Some n → key.slot < length us) →
    (e.buffers ≡ None → list_any has_buffers (nodes_with t e.keys.items) ≡ false) →
    MidEvent t us (rows_of es) e [] []
ready_under {t} us es id {at} e told is kept all units inside bare =
    let place = place_is id es at told in
    let own : e.id ≡ id = ap (λ (x : Entry). x.id) is ∙ place.id_is e in
    under_counted us kept
    (subst (λ i. find (λ (x : CollectionRow). x.id == i) (rows_of es) ≡ Some (row_of e)) (sym own) (row_here es id e told is))
    (found_counted t id es e all (place.found e ∙ ap Some (sym is))) units inside bare

-- and it may be closed
pub ready_close : (handles : Handles) {t : Table Node} {us : List Unit} (es : List Entry) (id : ℕ) {at : ℕ} {e : Entry} →
    place_in id es ≡ Some at →
    e ≡ get_or es at e → AreCounted t es → MidEvent t us (rows_of es) e [] [] → MayClose handles t us es at
ready_close handles {t} es id {at} {e} told is all under = record {
  entry = e;
  pending = [];
  is = sym is;
  place = rw (ap (λ (x : Entry). x.id) is ∙ (place_is id es at told).id_is e) told;
  under = under;
  out = inl refl;
  others = counted_but t _ es all;
}
