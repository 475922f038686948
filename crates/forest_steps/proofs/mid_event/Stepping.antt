-- Steps that were made from a collection to which a change was made, joined to the whole event.
use Rattle.forest_steps.proofs.Common.{◌≡◌, ℕ, zero, suc, ◌<◌, length, arith, true, false, refl, ap, subst, ◌∙◌, List, [], ◌∷◌, ◌++◌}
use Rattle.forest_steps.proofs.Common.{map, set, get_or, Option, Some, None, HeldBuffer, NodeKey, Interval, Table, node_at, Change}
use Rattle.forest_steps.proofs.Common.{Entry, Node, Unit, IsStored, CollectionRow, collection_in, forest_of, place_in, row_of, rows_of}
use Rattle.forest_steps.proofs.Common.{Handles, sorted_by, Holdings, row_at, AreCountedExcept, IsPoolOf, all_held, beside, IsOutcomeIn}
use Rattle.forest_steps.proofs.Common.{IsReady, changed_in, given_few, changed, is_birth, no_key, found_whole, counted_but, place_is}
use Rattle.forest_steps.proofs.Common.{row_found, IsSome, Closes, MayClose, IsServedByGiven, PropagatedFrom, MidEvent, Reaches}
use Rattle.forest_steps.proofs.Common.{node_is, inl, inr, sym, cons_option, list_any, same_key, In, or_cases, same_key-true, AreUnits}
use Rattle.forest_steps.proofs.Common.{all_keys, nodes_with, list_any-append, in_all, HaveUnits, IsOutcomeAt, IsReadyAt}
use Rattle.forest_store.specs.Settling.{is_there as is_there_in}
use Rattle.forest_store.proofs.changes.Altering.{change_kept}
use Rattle.forest_store.proofs.rows.Entries.{none_in}
use Rattle.forest_steps.proofs.mid_event.GivenKept.{given_at}
use Rattle.forest_steps.proofs.mid_event.Joining.{here_is, may_close, outcome_on, rows_stay}
use Rattle.forest_store.proofs.rows.Entries.{place_set}
use Rattle.forest_steps.proofs.mid_event.Ready.{ready_close, ready_under}

-- the pages of the same rows are the same, whatever the nodes
held_same : (t now : Table Node) (ss : List CollectionRow) → all_held (forest_of t ss) ≡ all_held (forest_of now ss)
held_same t now [] = refl
held_same t now (s ∷ ss) = ap (λ hs. s.held ++ hs) (held_same t now ss)

-- the pool speaks of held buffers alone, which stay
pub pool_same : (pool : Holdings) (t now : Table Node) (ss : List CollectionRow) → IsPoolOf pool (forest_of t ss) →
    IsPoolOf pool (forest_of now ss)
pool_same pool t now ss of =
    of ∙ ap (λ hs. sorted_by (λ (i : Interval). i.start) (map (λ (h : HeldBuffer). h.pages) hs)) (held_same t now ss)

-- each slot is in the list
pub inside_of : {t : Table Node} (us : List Unit) (es : List Entry) → IsStored t (rows_of es) → HaveUnits us t es →
    (key : NodeKey) {n : Node} → node_at t key ≡ Some n → key.slot < length us
inside_of {t} us es kept units key {n} is = from (rows_of es) units (kept.there key n is)
  where
    -- by induction: the row with the key has the counts of its unit
    from : (ss : List CollectionRow) → AreUnits us (map (collection_in t) ss) → list_any (same_key key) (all_keys ss) ≡ true →
        key.slot < length us
    from [] all h = let no : false ≡ true = h in absurd (cc)
    from (s ∷ ss) all h = elim (or_cases _ _ (sym (list_any-append (same_key key) s.keys (all_keys ss)) ∙ h)) [
      | inl here ↦
          rw (kept.named key n is) at (in_all _ _ all.0 n (on_keys s.keys here)).0
      | inr behind ↦ from ss all.1 behind
    ]
      where
        further : (o : Option Node) (ns : List Node) → In n ns → In n (cons_option o ns)
        further None ns on = on
        further (Some m) ns on = inr on

        on_keys : (ks : List NodeKey) → list_any (same_key key) ks ≡ true → In n (nodes_with t ks)
        on_keys [] h = let no : false ≡ true = h in absurd (cc)
        on_keys (k ∷ ks) h = elim (or_cases _ _ h) [
          | inl here ↦ rw (ap (node_at t) (sym (same_key-true key k here)) ∙ is) (inl refl)
          | inr behind ↦ further (node_at t k) (nodes_with t ks) (on_keys ks behind)
        ]

-- the collection of a change that is no birth is there
pub is_there : {t : Table Node} {us : List Unit} {es : List Entry} {id : ℕ} {change : Change} → is_birth change ≡ false →
    IsReady t es us id change → (place_in id es ≡ None → ⊥)
is_there {t} {es} {id} {change} birth ready none = grind (arith, change_kept, none_in, row_found)

-- an entry stands at each place
pub entry_there : (es : List Entry) (at : ℕ) → at < length es → (e : Entry) × (e ≡ get_or es at e)
entry_there [] at within = absurd (omega arith)
entry_there (e ∷ es) zero within = (e, refl)
entry_there (e ∷ es) (suc n) within = entry_there es n (omega arith)

-- a node that the change names has a row
pub row_there : {t : Table Node} {ss : List CollectionRow} → IsStored t ss → (id : ℕ) (key : NodeKey) →
    is_there_in (forest_of t ss) id key ≡ true →
    IsSome (row_at t key)
row_there {t} {ss} kept id key there = grind (arith, node_is)

-- and it is that node, which is not gone, and of the collection
pub node_there : {t : Table Node} {ss : List CollectionRow} → IsStored t ss → (id : ℕ) (key : NodeKey) →
    is_there_in (forest_of t ss) id key ≡ true →
    (n : Node) × (node_at t key ≡ Some n) × (n.gone ≡ false) × (n.collection ≡ id)
node_there {t} {ss} kept id key there = by (node_at t key) refl
  where
    -- by cases on the node: the test says each part of one that is there
    by : (o : Option Node) → node_at t key ≡ o → (n : Node) × (node_at t key ≡ Some n) × (n.gone ≡ false) × (n.collection ≡ id)
    by o h = grind (arith, node_is)

module _ (handles : Handles) {t : Table Node} {us : List Unit} {es : List Entry} {id at : ℕ} (e : Entry) (told : place_in id es ≡ Some at)
    (is : e ≡ get_or es at e) {change : Change} (ready : IsReady t es us id change) (birth : is_birth change ≡ false) where
  -- the entry at the place has the id that was looked for
  pub own_id : e.id ≡ id
  own_id = ap (λ (x : Entry). x.id) is ∙ (place_is id es at told).id_is e

  -- the collection is under way, with nothing loose and nothing due
  pub begins : MidEvent t us (rows_of es) e [] []
  begins =
      ready_under us es id e told is ready.kept ready.counted ready.units
      (inside_of us es ready.kept ready.units)
      (subst IsServedByGiven (here_is t es id e told is) (given_at t _ id ready.given))

  -- it has few buffers
  pub few_there : given_few e.buffers ≡ true
  few_there = (found_whole t _ _ _ begins.store.kept.whole begins.store.found).sound.few

  -- and may be closed
  pub closes_now : MayClose handles t us es at
  closes_now = ready_close _ es id told is ready.counted begins

  -- the collection is found at its place
  pub changed_is : changed_in t es id change ≡ changed change no_key (collection_in t (row_of e))
  changed_is = ap (changed change no_key) (here_is t es id e told is)

  -- ---- steps that were made from these nodes

  module _ {between : List Node}
      (made : changed change no_key (collection_in t (row_of e)) ≡ record (collection_in t (row_of e)) { nodes = between })
      {mid : Table Node} {after : List Unit} {new : Entry} (played : PropagatedFrom handles between t mid after (rows_of es) e new) where
    -- the row is the same, so the list of rows stays
    rows : rows_of (set es at new) ≡ rows_of es
    rows = rows_stay es at e new is played.row

    -- the row, and with it the id, is the same
    new_id : new.id ≡ id
    new_id = ap (λ (s : CollectionRow). s.id) played.row ∙ own_id

    -- what is due is what is abandoned, or nothing
    pub may_play : MayClose handles mid after (set es at new) at
    may_play =
        may_close _ es told (rw own_id at played.beside)
        (subst (λ i. AreCountedExcept t i es) own_id (counted_but t _ es ready.counted)) new_id
        (rw rows played.under) played.out

    -- at its place
    pub placed_played : place_in id (set es at new) ≡ Some at
    placed_played = place_set id at es new new_id told

    -- the pool speaks of held buffers alone, which stay
    pub pool_played : (pool : Holdings) → IsPoolOf pool (forest_of t (rows_of es)) →
        IsPoolOf pool (forest_of mid (rows_of (set es at new)))
    pool_played pool of = rw rows (pool_same pool t mid (rows_of es) of)

    -- the steps lead from the changed collection on
    leads_on : (pool : ℕ) → Reaches pool handles (beside (forest_of t (rows_of es)) id) (changed_in t es id change)
        (collection_in mid (row_of new))
    leads_on pool = grind (arith, changed_is)

    -- the steps that were played and the closing are all that is forced
    pub outcome_played : {pool left : Holdings} {now : Table Node} {behind : List Entry} {last : List Unit} →
        Closes handles pool left mid now (set es at new) behind last id → left.size ≡ pool.size →
        IsOutcomeIn true handles pool left t now es behind id change
    outcome_played {now} closes size =
        outcome_on _ es told ready.kept (rw own_id at played.beside) new new_id
        _ _ _ refl now _ _ birth (leads_on _) closes size

  -- ---- where nothing was changed

  -- without a change the closing is all that is forced
  pub outcome_closed : (nothing : change ≡ Change.Nothing) {pool left : Holdings} {now : Table Node} {behind : List Entry}
      {last : List Unit} → Closes handles pool left t now es behind last id → left.size ≡ pool.size →
      IsOutcomeIn true handles pool left t now es behind id change
  outcome_closed nothing closes size = record {
    settled = λ h. rw nothing closes.settled;
    unchanged = λ h. cc;
    same_pool = λ h. cc;
    same = closes.same;
    size = size;
  }

-- the ids of one place are one
pub one_id : (es : List Entry) {at : ℕ} (i j : ℕ) → place_in i es ≡ Some at → place_in j es ≡ Some at → i ≡ j
one_id es {at} i j told other =
    let e = (entry_there es at (place_is i es at told).within).0 in
    sym ((place_is i es at told).id_is e) ∙ (place_is j es at other).id_is e

-- so the change may be made to the collection with any id that is found there
pub ready_at : {t : Table Node} {es : List Entry} {us : List Unit} {at : ℕ} {change : Change} → IsReadyAt t es us at change → (id : ℕ) →
    place_in id es ≡ Some at → IsReady t es us id change
ready_at {es} {at} may id told = rw (one_id es _ id may.place told) at may.ready

module _ (handles : Handles) {t : Table Node} {us : List Unit} {es : List Entry} {at : ℕ} (e : Entry) (is : e ≡ get_or es at e)
    {change : Change} (may : IsReadyAt t es us at change) (birth : is_birth change ≡ false) where
  -- the collection is under way, with nothing loose and nothing due
  pub begins_at : MidEvent t us (rows_of es) e [] []
  begins_at = begins handles e may.place is may.ready birth

  module _ {between : List Node}
      (made : changed change no_key (collection_in t (row_of e)) ≡ record (collection_in t (row_of e)) { nodes = between })
      {mid : Table Node} {after : List Unit} {new : Entry} (played : PropagatedFrom handles between t mid after (rows_of es) e new) where
    -- what is due is what is abandoned, or nothing
    pub may_finish : MayClose handles mid after (set es at new) at
    may_finish = may_play _ e may.place is may.ready birth made played

    -- the held buffers stay
    pub pool_there : (pool : Holdings) → IsPoolOf pool (forest_of t (rows_of es)) →
        IsPoolOf pool (forest_of mid (rows_of (set es at new)))
    pool_there = pool_played _ e may.place is may.ready birth made played

    -- once what comes last is made, all is
    pub outcome_there : (pool left : Holdings) (now : Table Node) (behind : List Entry) (last : List Unit) →
        ((id : ℕ) → place_in id (set es at new) ≡ Some at → Closes handles pool left mid now (set es at new) behind last id) →
        left.size ≡ pool.size → IsOutcomeAt true handles pool left t now es behind last at change
    outcome_there pool left now behind last closes size = record {
      outcome = λ id told.
          let ready = ready_at may id told in
          outcome_played _ e told is ready birth made played
          (closes id (placed_played _ e told is ready birth made played)) size;
      units = (closes may.id (placed_played _ e may.place is may.ready birth made played)).units;
    }
