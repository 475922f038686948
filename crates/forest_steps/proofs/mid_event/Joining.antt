-- Steps that were made one after another, joined: what the later ones finish, the earlier ones did.
use Rattle.forest_steps.proofs.Common.{◌≡◌, ◌≢◌, ℕ, zero, suc, ◌==◌, ◌⊎◌, arith, inl, inr, nat_lt, refl, ap, sym, ◌∙◌, subst}
use Rattle.forest_steps.proofs.Common.{true, false, not, List, [], ◌∷◌, map, get_or, set, Some, option_map, eq-eqb}
use Rattle.forest_steps.proofs.Common.{filter, find, NodeKey, In, Table, Change, Entry, Node, Unit}
use Rattle.forest_steps.proofs.Common.{Collection, IsStored, CollectionRow, collection_in, forest_of, place_in, put_row, row_of}
use Rattle.forest_steps.proofs.Common.{rows_of, Handles, collection_or_new, put, get_or-set_same, get_or_default, flat_map}
use Rattle.forest_steps.proofs.Common.{Holdings, AreCountedExcept, beside, pages_in, Finishes, IsOutcomeIn, IsSettledIn}
use Rattle.forest_steps.proofs.Common.{changed_in, given_back, is_birth, rows_put, place_is, set_put, collection_is}
use Rattle.forest_steps.proofs.Common.{row_found, Closes, MayClose, IsBeside, MidEvent, Reaches, is_abandoned_in, cases_place}
use Rattle.forest_store.proofs.rows.Counted.{moved, set_rows}
use Rattle.forest_store.proofs.rows.Entries.{place_set}
use Rattle.forest_store.proofs.tallies.Slots.{changed_id, or_new_id, settles_id}
use Rattle.forest_steps.proofs.tables.Rows.{same_on}
use Rattle.forest_steps.proofs.changes.FirstAllocated.{put_there}

-- ---- collections by id

-- one takes the place of another with its id
pub put_twice : (new old : Collection) (cs : List Collection) → old.id ≡ new.id → put new (put old cs) ≡ put new cs
put_twice new old [] same = let own : (old.id == new.id) ≡ true = eq-eqb _ _ same in rw own refl
put_twice new old (c ∷ cs) same =
    let own : (old.id == new.id) ≡ true = eq-eqb _ _ same in
    cases_place c.id new.id _
    (λ here. let there : (c.id == old.id) ≡ true = ap (λ i. c.id == i) same ∙ here in rw (there, own, here) refl)
    (λ other above.
    let there : (c.id == old.id) ≡ false = ap (λ i. c.id == i) same ∙ other in
    let over : nat_lt old.id c.id ≡ true = ap (λ i. nat_lt i c.id) same ∙ above in
    rw (there, over, own, other, above) refl) (λ other below.
    let there : (c.id == old.id) ≡ false = ap (λ i. c.id == i) same ∙ other in
    let under : nat_lt old.id c.id ≡ false = ap (λ i. nat_lt i c.id) same ∙ below in
    rw (there, under, other, below) (ap (λ xs. c ∷ xs) (put_twice new old cs same)))

-- beside it nothing changes
others_put : (new : Collection) (id : ℕ) (cs : List Collection) → new.id ≡ id →
    filter (λ (c : Collection). not (c.id == id)) (put new cs) ≡ filter (λ (c : Collection). not (c.id == id)) cs
others_put new id [] same = let own : (new.id == id) ≡ true = eq-eqb _ id same in rw own refl
others_put new id (c ∷ cs) same =
    let own : (new.id == id) ≡ true = eq-eqb _ id same in
    cases_place c.id new.id _
    (λ here. let there : (c.id == id) ≡ true = ap (λ i. c.id == i) (sym same) ∙ here in rw (here, own, there) refl)
    (λ other above. rw (other, above, own) refl) (λ other below.
    let there : (c.id == id) ≡ false = ap (λ i. c.id == i) (sym same) ∙ other in
    rw (other, below, there) (ap (λ xs. c ∷ xs) (others_put new id cs same)))

-- the collection was put at its place, and the others stay
pub beside_put : (t now : Table Node) (ss behind : List CollectionRow) (c : Collection) (id : ℕ) → c.id ≡ id →
    map (collection_in now) behind ≡ put c (map (collection_in t) ss) → beside (forest_of now behind) id ≡ beside (forest_of t ss) id
beside_put t now ss behind c id same is =
    ap (λ cs. flat_map pages_in (filter (λ (d : Collection). not (d.id == id)) cs)) is
    ∙ ap (flat_map pages_in) (others_put c id _ same)

-- ---- steps

-- what is finished from the collection that steps led to was finished from the one that they led from
pub joined : {pool : ℕ} {handles : Handles} (t : Table Node) {mid now : Table Node}
    (ss : List CollectionRow) {between behind : List CollectionRow}
    (c : Collection) {d : Collection} → d.id ≡ c.id →
    map (collection_in mid) between ≡ put d (map (collection_in t) ss) → Reaches pool handles (beside (forest_of t ss) c.id) c d →
    Finishes pool handles mid between now behind d → Finishes pool handles t ss now behind c
joined {handles} t {mid} ss {between} c {d} same is leads f = record {
  after = f.after;
  settles = leads f.after (rw
      (ap (beside (forest_of mid between)) same ∙ beside_put t mid ss _ d _ same is) at f.settles);
  collections = f.collections ∙ ap (put (given_back handles f.after)) is ∙ put_twice _ d _
      (sym (settles_id _ _ _ d _ f.settles));
  rests = rw same at f.rests;
}

-- ---- entries

-- the others are counted in a table that differs beside them
pub but_beside : {t now : Table Node} {id : ℕ} (es : List Entry) → IsBeside t now (rows_of es) id → AreCountedExcept t id es →
    AreCountedExcept now id es
but_beside {t} {now} {id} es by all = from es (λ x on differ. by.others x on differ) all
  where
    -- by induction: each other collection is as it was in the table
    from : (xs : List Entry) → ((x : CollectionRow) → In x (rows_of xs) → x.id ≢ id → collection_in now x ≡ collection_in t x) →
        AreCountedExcept t id xs → AreCountedExcept now id xs
    from [] each but = tt
    from (e ∷ xs) each but = (
      λ differ. moved t now e (each (row_of e) (inl refl) differ) (but.0 differ),
      from xs (λ x on. each x (inr on)) but.1,
    )

-- and where the entry with the id is another
pub but_set : (t : Table Node) (id at : ℕ) (es : List Entry) (new : Entry) → new.id ≡ id → AreCountedExcept t id es →
    AreCountedExcept t id (set es at new)
but_set t id at [] new own all = tt
but_set t id zero (e ∷ es) new own all = (λ differ. absurd (differ own), all.1)
but_set t id (suc n) (e ∷ es) new own all = (all.0, but_set t id n es new own all.1)

-- the row of the entry at the place of its id
pub row_here : (es : List Entry) (id : ℕ) {at : ℕ} (e : Entry) → place_in id es ≡ Some at → e ≡ get_or es at e →
    find (λ (x : CollectionRow). x.id == id) (rows_of es) ≡ Some (row_of e)
row_here es id {at} e told is =
    row_found id es ∙ ap (option_map row_of) ((place_is id es at told).found e ∙ ap Some (sym is))

-- the collection of the entry at the place of its id
pub here_is : (t : Table Node) (es : List Entry) (id : ℕ) {at : ℕ} (e : Entry) → place_in id es ≡ Some at → e ≡ get_or es at e →
    collection_or_new (forest_of t (rows_of es)) id ≡ collection_in t (row_of e)
here_is t es id e told is = grind (arith, collection_is, row_here)

-- a change keeps the id of the collection
pub changed_own : (t : Table Node) (es : List Entry) (id : ℕ) (change : Change) →
    is_birth change ≡ false → (changed_in t es id change).id ≡ id
changed_own t es id change birth = changed_id _ _ _ birth ∙ or_new_id (forest_of t (rows_of es)) id

-- ---- what was finished from a state that steps led to

-- the steps led from this table and these entries to that table, and to that entry at the place of the collection
module _ (handles : Handles) {t mid : Table Node} (es : List Entry) {id at : ℕ} (told : place_in id es ≡ Some at)
    (kept : IsStored t (rows_of es)) (by : IsBeside t mid (rows_of es) id) (new : Entry) (own : new.id ≡ id) where
  -- the rows of the entries before the steps
  abbrev ss : List CollectionRow
  ss = rows_of es

  -- the entry is set at the place of its id
  put_in_place : rows_of (set es at new) ≡ put_row (row_of new) (rows_of es)
  put_in_place = ap rows_of (set_put new es at kept.rising (rw own told)) ∙ rows_put new es

  -- the collection is put among those that were there
  mid_put : map (collection_in mid) (rows_of (set es at new)) ≡ put (collection_in mid (row_of new))
      (map (collection_in t) (rows_of es))
  mid_put =
      let place = place_is id es at told in
      let old : Entry = get_or es at new in
      let old_id : old.id ≡ id = place.id_is new in
      let there : find (λ (x : CollectionRow). x.id == old.id) (rows_of es) ≡ Some (row_of old) =
      subst (λ i. find (λ (x : CollectionRow). x.id == i) (rows_of es) ≡ Some (row_of old)) (sym old_id)
      (row_found id es ∙ ap (option_map row_of) (place.found new)) in
      ap (map (collection_in mid)) put_in_place
      ∙ put_there (row_of old) (row_of new) (own ∙ sym old_id) t mid ss kept.rising there
      (λ x on differ. by.others x on (λ same. differ (same ∙ sym old_id)))

  -- it is found at its place
  mid_is : collection_or_new (forest_of mid (rows_of (set es at new))) id ≡ collection_in mid (row_of new)
  mid_is =
      here_is mid _ id new (place_set id at es new own told)
      (sym (get_or-set_same es at new new (place_is id es at told).within))

  module _ (pool between left : Holdings) (size : between.size ≡ pool.size) (now : Table Node) (behind : List Entry) (change : Change)
      (birth : is_birth change ≡ false)
      (leads : Reaches pool.size handles (beside (forest_of t (rows_of es)) id) (changed_in t es id change)
      (collection_in mid (row_of new))) where
    -- the later steps finish what the earlier ones began
    pub settled_on : IsSettledIn handles between left mid now (set es at new) behind id Change.Nothing →
        IsSettledIn handles pool left t now es behind id change
    settled_on s = record {
      finishes =
          let same : (changed_in t es id change).id ≡ id = changed_own t es id _ birth in
          joined t ss (changed_in t es id change)
          (own ∙ sym same) mid_put (rw same leads)
          (rw mid_is at (rw size at s.finishes));
      kept = s.kept;
      counted = s.counted;
      holds = s.holds;
    }

    -- so the change was made with all that it forces
    pub outcome_on : {us : List Unit} → Closes handles between left mid now (set es at new) behind us id → left.size ≡ between.size →
        IsOutcomeIn true handles pool left t now es behind id change
    outcome_on closes stays = record {
      settled = λ h. settled_on closes.settled;
      unchanged = λ h. cc;
      same_pool = λ h. cc;
      same = same_on by.same closes.same;
      size = stays ∙ size;
    }

-- ---- what may be closed then

-- the collection at its place may be closed once no step is left in it but that its buffers may be abandoned
pub may_close : (handles : Handles) {t mid : Table Node} {us : List Unit} (es : List Entry) {id at : ℕ} → place_in id es ≡ Some at →
    IsBeside t mid (rows_of es) id → AreCountedExcept t id es → {new : Entry} → new.id ≡ id → {pending : List NodeKey} →
    MidEvent mid us (rows_of (set es at new)) new [] pending → (pending ≡ []) ⊎ (is_abandoned_in handles mid new ≡ true) →
    MayClose handles mid us (set es at new) at
may_close handles {mid} es {id} {at} told by others {new} own {pending} under out = record {
  entry = new;
  pending = pending;
  is = get_or-set_same es at new new (place_is id es at told).within;
  place = subst (λ i. place_in i (set es at new) ≡ Some at) (sym own) (place_set id at es new own told);
  under = under;
  out = out;
  others = subst (λ i. AreCountedExcept mid i (set es at new)) (sym own)
      (but_set mid id at es new own (but_beside es by others));
}

-- where the row stays, the rows do
pub rows_stay : (es : List Entry) (at : ℕ) (old new : Entry) → old ≡ get_or es at old → row_of new ≡ row_of old →
    rows_of (set es at new) ≡ rows_of es
rows_stay es at old new is same =
    set_rows es at new (λ within. same ∙ ap row_of (is ∙ get_or_default es at old new within))
