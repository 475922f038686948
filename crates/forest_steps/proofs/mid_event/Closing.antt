-- The last steps: the root of buffers that are abandoned is lost, and the pages of buffers that are home go back.
use Rattle.forest_steps.proofs.Common.{◌≡◌, ◌<◌, ℕ, ◌⊎◌, inl, inr, refl, ap, sym, ◌∙◌, subst, Bool, true, false, not, nat_lt, ◌&&◌, ◌++◌}
use Rattle.forest_steps.proofs.Common.{List, [], map, get_or, set, Option, Some, None, option_map, arith, eqb-true, lt-ltb, not-true}
use Rattle.forest_steps.proofs.Common.{filter, list_all, HeldBuffer, Interval, NodeKey, Cause, forced, and_left, and_right, both_ways}
use Rattle.forest_steps.proofs.Common.{either_way, some-injective, Table, Change, Entry, Node, Unit, has_strong, Collection, with_nodes}
use Rattle.forest_steps.proofs.Common.{IsStored, IsWhole, CollectionRow, collection_in, forest_of, nodes_with, place_in, row_of, rows_of}
use Rattle.forest_steps.proofs.Common.{Handles, Settles, standing, le-ltb, get_or-set_same, get_or_default, Fault, Loss, sorted_by}
use Rattle.forest_steps.proofs.Common.{Holdings, AreCounted, IsCounted, HaveUnits, decided, mark_of, has_given_root, all_held, beside}
use Rattle.forest_steps.proofs.Common.{pages_in, after_loss, IsSettledIn, is_kept_by, starts_differ, by_page, is_held_strongly, is_out}
use Rattle.forest_steps.proofs.Common.{pages_held, Forces, forced_made, still_decided, found_filed, start_of, place_is, set_put, left_in}
use Rattle.forest_steps.proofs.Common.{slice_get, set-set, filter-list_all, Closes, IsClosed, MayClose, IsBeside, MidEvent, AfterRemoval}
use Rattle.forest_steps.proofs.Common.{Reaches, MayGo, is_abandoned_in, strong_told, counted_set, all_on}
use Rattle.std.proofs.lemmas.Bool.{ltb-true}
use Rattle.forest_store.specs.Resting.{is_at_rest}
use Rattle.forest_steps.proofs.changes.Dropped.{IsReturned, finishes_so, one_entry, pool_at, pool_so}
use Rattle.forest_steps.proofs.changes.Dropped.{stored_so, strong_keeps, units_so, kept_root}
use Rattle.forest_steps.proofs.failures.AllGone.{AreGone, none_decides, none_strong}
use Rattle.forest_steps.proofs.intervals.Pools.{pool_stays}
use Rattle.forest_store.proofs.rows.Counted.{counted_put}
use Rattle.forest_steps.proofs.mid_event.Joining.{but_beside, here_is, settled_on, rows_stay}
use Rattle.forest_store.proofs.rows.Entries.{place_set}
use Rattle.forest_steps.proofs.mid_event.Ready.{counted_under, no_end_under, none_under, whole_under}
use Rattle.forest_steps.proofs.mid_event.Roots.{IsGivenRoot, all_lost, given_root, root_decided, root_here, root_on, root_top}

-- ---- where the buffers are kept

module _ (handles : Handles) {t : Table Node} {us : List Unit} {ss : List CollectionRow} {e : Entry}
    (under : MidEvent t us ss e [] []) where
  -- a strong node lives, the root has no buffers, or a strong handle is open
  pub closed_still : (nat_lt 0 e.strong ≡ true)
      ⊎ ((has_given_root t e.keys.items && not (is_held_strongly handles e.id e.buffers)) ≡ false) → IsClosed handles t t us ss e e
  closed_still why = record {
    kept = under.store.kept;
    units = under.store.units;
    counted = counted_under under;
    row = refl;
    fewer = omega arith;
    none = still_decided _ _ _ (none_under under)
        (kept_root t e _ (found_filed t _ ss _ under.store.kept.filed under.store.found) (whole_under under) under.store.strong why);
    leads = λ pool others after settles. settles;
    beside = record { same = record { first = refl; nexts = refl; limit = refl; len = refl }; others = λ x on differ. refl };
  }

-- ---- where they are abandoned

module _ (handles : Handles) {t : Table Node} {us : List Unit} {ss : List CollectionRow} {e : Entry} {pending : List NodeKey}
    (under : MidEvent t us ss e [] pending) (abandoned : is_abandoned_in handles t e ≡ true) where
  -- the collection whose buffers are abandoned
  abbrev c : Collection
  c = collection_in t (row_of e)

  -- whether a strong handle is open on one of the buffers that the collection was given
  abbrev strong_open : Bool
  strong_open = is_held_strongly handles e.id e.buffers

  -- the second half of being abandoned
  rest : (has_given_root t e.keys.items && not (is_held_strongly handles e.id e.buffers)) ≡ true
  rest = and_right _ _ abandoned

  -- no strong handle is open, as the buffers are abandoned
  shut : is_held_strongly handles e.id e.buffers ≡ false
  shut = not-true _ (and_right _ _ rest)

  -- the first key has a root that is left and has its buffers
  root : IsGivenRoot t e.keys.items
  root = given_root t under.store.kept.named _ (and_left _ _ rest)

  -- each collection is whole
  whole : IsWhole (collection_in t (row_of e))
  whole = whole_under under

  -- the count of strong nodes is 0
  weak : has_strong (nodes_with t e.keys.items) ≡ false
  weak =
      sym (strong_told (nodes_with t e.keys.items) _ under.store.strong)
      ∙ ap (nat_lt 0) (eqb-true _ 0 (and_left _ _ abandoned))

  -- the root is the first node
  root_is : {first : NodeKey} → slice_get e.keys.items 0 ≡ Some first → root.node.key ≡ first
  root_is is = some-injective _ _ (sym (ap (λ ks. slice_get ks 0) root.keys_are) ∙ is)

  -- the fault that begins at a node for want of a strong node
  abbrev fault_at : NodeKey → Fault
  fault_at first = record { cause = Cause.NoStrong; origin = first }

  -- it may go
  pub may_go : {first : NodeKey} → slice_get e.keys.items 0 ≡ Some first →
      MayGo (nodes_with t e.keys.items) first (Some (record { cause = Cause.NoStrong; origin = first }))
  may_go is = grind (arith, left_in, root, root_here, root_is, root_on)

  -- its loss is forced
  forces : (pool : ℕ) (others : List Interval) → forced pool (standing handles others (collection_in t (row_of e)))
      ≡ Some (Loss root.node.key Cause.NoStrong)
  forces pool others =
      forced_made handles _ others c ∙ ap (option_map (mark_of pool (pages_in c ++ others)))
      (root_decided root e.buffers _ (no_end_under under) weak shut)

  module _ {first : NodeKey} (is : slice_get e.keys.items 0 ≡ Some first) {now : Table Node} {after : List Unit} {new : Entry}
      {above : Option NodeKey}
      (went : AfterRemoval t now after ss e new first (Some (record { cause = Cause.NoStrong; origin = first })) above [] pending) where
    -- the fault began at the root
    lost : nodes_with now e.keys.items ≡ after_loss (record { cause = Cause.NoStrong; origin = root.node.key }) (nodes_with t e.keys.items)
    lost = went.nodes ∙ ap (λ k. after_loss (fault_at k) (nodes_with t e.keys.items)) (sym (root_is is))

    -- the root's loss takes all that is left
    gone : AreGone (nodes_with now e.keys.items)
    gone =
        subst AreGone (sym lost)
        (all_lost whole root.node (root_on root) (root_here root) (root_top root) (fault_at root.node.key) refl)

    -- the new entry has the same keys
    gone_new : AreGone (nodes_with now new.keys.items)
    gone_new = subst (λ (s : CollectionRow). AreGone (nodes_with now s.keys)) (sym went.row) gone

    -- only the nodes change
    lost_is : with_nodes (after_loss (record { cause = Cause.NoStrong; origin = root.node.key })) (collection_in t (row_of e))
        ≡ collection_in now (row_of e)
    lost_is = λ i. record (collection_in t (row_of e)) { nodes = sym lost i }

    -- all are gone then, and nothing is forced
    pub closed_lost : IsClosed handles t now after ss e new
    closed_lost = record {
      kept = went.under.store.kept;
      units = went.under.store.units;
      counted = record {
        calm = none_decides (nodes_with now new.keys.items) new.buffers true gone_new;
        strong = went.under.store.strong;
        reserved = went.under.store.reserved;
        unkept_known = went.under.store.unkept_known;
      };
      row = went.row;
      fewer = let none = went.under.store.strong ∙ none_strong (nodes_with now new.keys.items) gone_new in omega (arith, none);
      none = none_decides (nodes_with now e.keys.items) e.buffers strong_open gone;
      leads = λ pool others after_all settles.
          Forces c after_all (Loss root.node.key Cause.NoStrong) (forces pool others)
          (subst (λ d. Settles pool handles others d after_all) (sym lost_is) settles);
      beside = went.beside;
    }

-- ---- the entry at its place

module _ {handles : Handles} {t : Table Node} {us : List Unit} {es : List Entry} {at : ℕ} (may : MayClose handles t us es at) (id : ℕ)
    (told : place_in id es ≡ Some at) (old : Entry) (is : old ≡ get_or es at old) where
  -- the rows of all the entries
  abbrev ss : List CollectionRow
  ss = rows_of es

  -- both stand at the place
  pub entry_is : may.entry ≡ old
  entry_is = one_entry es id _ old told (sym may.is) is

  -- the premise, at the entry that is there
  pub under_is : MidEvent t us (rows_of es) old [] may.pending
  under_is = rw entry_is at may.under

  -- the premise, at the entry that is there
  pub out_is : (may.pending ≡ []) ⊎ (is_abandoned_in handles t old ≡ true)
  out_is = rw entry_is at may.out

  -- the entry at the place has the id that was looked for
  own : old.id ≡ id
  own = ap (λ (e : Entry). e.id) is ∙ (place_is id es at told).id_is old

  module _ {now : Table Node} {after : List Unit} {new : Entry} (closed : IsClosed handles t now after (rows_of es) old new) where
    -- the entries with the new entry at the place of the old one
    abbrev mid : List Entry
    mid = set es at new

    -- the row, and with it the id, is the same
    new_id : new.id ≡ id
    new_id = ap (λ (s : CollectionRow). s.id) closed.row ∙ own

    -- the row is the same, so the list of rows stays
    rows_mid : rows_of (set es at new) ≡ rows_of es
    rows_mid = rows_stay es at old new is closed.row

    -- the new entry has the id, so it is found at the same place
    told_mid : place_in id (set es at new) ≡ Some at
    told_mid = place_set id at es new new_id told

    -- it stands where it was set
    is_mid : new ≡ get_or (set es at new) at new
    is_mid = sym (get_or-set_same es at new new (place_is id es at told).within)

    -- the list of rows stays
    kept_mid : IsStored now (rows_of (set es at new))
    kept_mid = subst (IsStored now) (sym rows_mid) closed.kept

    -- only this collection changed
    by : IsBeside t now (rows_of es) id
    by = subst (IsBeside t now (rows_of es)) own closed.beside

    -- the others are counted as before, and this one as the step says
    counted_mid : AreCounted now (set es at new)
    counted_mid =
        subst (AreCounted now) (sym (set_put new es at under_is.store.kept.rising (rw new_id told)))
        (counted_put now new es under_is.store.kept.rising
        (rw new_id (but_beside es by (rw own at (rw entry_is at may.others)))) closed.counted)

    -- the list of rows stays
    units_mid : HaveUnits after now (set es at new)
    units_mid = rw rows_mid closed.units

    -- the pages beside it
    pub pages_mid : (held : List Interval) → starts_differ held ≡ true →
        held ≡ sorted_by start_of (map (λ (h : HeldBuffer). h.pages) (all_held (forest_of t (rows_of es)))) →
        held ≡ by_page (pages_held new.held.items ++ beside (forest_of now (rows_of (set es at new))) new.id)
    pages_mid held parted of =
        pool_at handles mid id new told_mid is_mid kept_mid counted_mid _ parted
        (pool_stays _ t now _ _ rows_mid of)

    module _ (last : Entry) (is_last : last ≡ record new { held = last.held })
        (out : last.held.items ≡ filter (is_out handles (nat_lt 0 new.strong)) new.held.items) where
      -- only the held buffers change, by those that are home
      back : IsReturned handles new last
      back = record {
        id = ap (λ (e : Entry). e.id) is_last;
        keys = ap (λ (e : Entry). e.keys) is_last;
        buffers = ap (λ (e : Entry). e.buffers) is_last;
        held = out;
      }

      -- the second entry replaces the first
      twice : set (set es at new) at last ≡ set es at last
      twice = set-set es at new last

      -- the row is the same
      none_mid : decided (nodes_with now new.keys.items) new.buffers (is_held_strongly handles new.id new.buffers) ≡ None
      none_mid = grind arith

      -- only the held buffers change, and no count speaks of these
      counted_last : IsCounted now new → IsCounted now last
      counted_last counted =
          subst (IsCounted now) (sym is_last)
          (record { calm = counted.calm; strong = counted.strong; reserved = counted.reserved; unkept_known = counted.unkept_known })

      -- what was forced was made
      pub closes : (pool left : Holdings) → starts_differ left.held ≡ true →
          left.held ≡ by_page (pages_held last.held.items ++ beside (forest_of now (rows_of (set es at new))) new.id) →
          Closes handles pool left t now es (set es at last) after id
      closes pool left parted of = record {
        settled = settled_on handles es told under_is.store.kept by new new_id pool pool left refl now (set es at last)
            Change.Nothing refl
            (subst (λ d. Reaches pool.size handles (beside (forest_of t ss) id) d (collection_in now (row_of new)))
            (sym (here_is t es id old told is))
            (subst (λ (s : CollectionRow). Reaches pool.size handles (beside (forest_of t ss) id)
            (collection_in t (row_of old)) (collection_in now s))
            (sym closed.row) (closed.leads pool.size (beside (forest_of t ss) id))))
            (subst (λ xs. IsSettledIn handles pool left now now mid xs id Change.Nothing) twice
            (record {
              finishes = finishes_so handles mid id new told_mid is_mid kept_mid counted_mid back none_mid pool.size;
              kept = stored_so handles mid id new told_mid is_mid kept_mid counted_mid back;
              counted = counted_set now mid at last (λ within own_is. counted_last (subst (IsCounted now)
                  (sym (is_mid ∙ get_or_default mid at new last within)) own_is)) counted_mid;
              holds = pool_so handles mid id new told_mid is_mid kept_mid counted_mid back left.held parted of;
            }));
        units = subst (HaveUnits after now) twice
            (units_so handles mid id new told_mid is_mid kept_mid counted_mid back after units_mid);
        same = closed.beside.same;
      }

  -- where a strong node lives, nothing is left to be done
  pub closes_strong : 0 < old.strong → (pool : Holdings) → starts_differ pool.held ≡ true →
      pool.held ≡ sorted_by start_of (map (λ (h : HeldBuffer). h.pages) (all_held (forest_of t (rows_of es)))) →
      Closes handles pool pool t t es (set es at old) us id
  closes_strong some pool parted of =
      let live : nat_lt 0 old.strong ≡ true = lt-ltb 0 old.strong some in
      let none : may.pending ≡ [] = elim out_is [
        | inl e ↦ e
        | inr gone ↦
            let weak : old.strong ≡ 0 = eqb-true _ 0 (and_left _ _ gone) in absurd (omega arith)
      ] in
      let closed : IsClosed handles t t us (rows_of es) old old = closed_still _
      (rw none at under_is) (inl live) in
      closes closed old refl
      (sym (filter-list_all _ _
      (all_on (is_out handles (nat_lt 0 old.strong)) old.held.items (λ h on. ap not (strong_keeps _ _ _ live))))) _ _ parted
      (pages_mid closed _ parted of)

  -- where none does, but the collection rests without one, nothing is either
  closes_resting : nat_lt 0 old.strong ≡ false → is_at_rest handles t (row_of old) ≡ true → (pool : Holdings) →
      starts_differ pool.held ≡ true →
      pool.held ≡ sorted_by start_of (map (λ (h : HeldBuffer). h.pages) (all_held (forest_of t (rows_of es)))) →
      Closes handles pool pool t t es (set es at old) us id
  closes_resting weak rests pool parted of =
      let kept : (has_given_root t old.keys.items && not (is_held_strongly handles old.id old.buffers)) ≡ false =
      not-true _ (and_left _ _ rests) in
      let none : may.pending ≡ [] = elim out_is [
        | inl e ↦ e
        | inr gone ↦ both_ways _ (and_right _ _ gone) kept
      ] in
      let closed : IsClosed handles t t us (rows_of es) old old = closed_still _
      (rw none at under_is) (inr kept) in
      closes closed old refl
      (sym (filter-list_all _ _
      (ap (λ b. list_all (is_out handles b) old.held.items) weak ∙ and_right _ _ rests))) _ _ parted
      (pages_mid closed _ parted of)

  -- so where one of the two holds
  pub closes_kept : is_kept_by handles t (row_of old) old.strong ≡ true → (pool : Holdings) → starts_differ pool.held ≡ true →
      pool.held ≡ sorted_by start_of (map (λ (h : HeldBuffer). h.pages) (all_held (forest_of t (rows_of es)))) →
      Closes handles pool pool t t es (set es at old) us id
  closes_kept kept pool parted of = elim (either_way (nat_lt 0 old.strong)) [
    | inl live ↦ closes_strong (ltb-true 0 old.strong live) _ parted of
    | inr weak ↦ closes_resting weak (rw weak at kept) _ parted of
  ]

  -- where none does, those that are home go back
  module _ {now : Table Node} {after : List Unit} {new : Entry} (closed : IsClosed handles t now after (rows_of es) old new)
      (weak : old.strong ≡ 0) where
    -- the count of strong nodes does not grow
    none_strong_new : nat_lt 0 new.strong ≡ false
    none_strong_new = le-ltb 0 new.strong (omega (arith, closed.fewer))

    -- the buffers that are home go, and nothing is forced then
    pub closes_weak : (last : Entry) → last ≡ record new { held = last.held } →
        last.held.items ≡ filter (is_out handles false) new.held.items → (pool left : Holdings) →
        starts_differ left.held ≡ true →
        left.held ≡ by_page (pages_held last.held.items ++ beside (forest_of now (rows_of (set es at new))) new.id) →
        Closes handles pool left t now es (set es at last) after id
    closes_weak last is_last out =
        closes closed _ is_last (out ∙ ap (λ b. filter (is_out handles b) new.held.items) (sym none_strong_new))
