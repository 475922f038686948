-- What stays true of a forest without a collection that has no node.
use Rattle.alloc_event.proofs.Common.{AllByRecursion, AreRising, Bool, Collection, CollectionRow, Entry, IsStored, List, Node, NodeKey}
use Rattle.alloc_event.proofs.Common.{None, Option, Some, Table, [], all_keys, and_left, ap, are_filed, arith, collection_at}
use Rattle.alloc_event.proofs.Common.{collection_in, collection_is, cond, eqb-true, false, filter, find, forest_of, is_left, length, map}
use Rattle.alloc_event.proofs.Common.{nodes_with, not, option_map, option_map_or, place_in, refl, row_of, rows_of, some-injective, suc}
use Rattle.alloc_event.proofs.Common.{sym, true, zero, ℕ, ◌++◌, ◌+◌, ◌<◌, ◌==◌, ◌∙◌, ◌∷◌, ◌≡◌}
use Rattle.std.specs.List.{remove}
use Rattle.std.proofs.lemmas.Bool.{ne_eqb}
use Rattle.forest_store.proofs.rows.Showing.{filed-length, filed_found}
use Rattle.sm_names.proofs.ListLaws.{list_all-filter}

-- of another collection
abbrev pub is_beside : ℕ → CollectionRow → Bool
is_beside id s = not (s.id == id)

-- all of greater ids are others
others_kept : (id : ℕ) (ss : List CollectionRow) → AllByRecursion (λ (later : CollectionRow). id < later.id) ss →
    filter (is_beside id) ss ≡ ss
others_kept id [] all = refl
others_kept id (s ∷ ss) all =
    let other : (s.id == id) ≡ false = ne_eqb _ _ (λ same. omega (arith, all.0)) in
    rw other (ap (λ l. s ∷ l) (others_kept id ss all.1))

-- by whether the first entry is removed
remove_row-by : (id : ℕ) (x : Entry) (es : List Entry) {at : ℕ} → AreRising (rows_of (x ∷ es)) → (here : Bool) → (x.id == id) ≡ here →
    (behind : Option ℕ) → ((n : ℕ) → behind ≡ Some n → rows_of (remove es n) ≡ filter (is_beside id) (rows_of es)) →
    cond here (Some 0) (option_map (λ n. n + 1) behind) ≡ Some at →
    rows_of (remove (x ∷ es) at) ≡ filter (is_beside id) (rows_of (x ∷ es))
remove_row-by id x es {at} rising true here behind on told =
    let first : zero ≡ at = cc in
    let low = rw (eqb-true _ id here) at rising.0 in
    rw (← first, here) (sym (others_kept id _ low))
remove_row-by id x es rising false other None on told = absurd (cc)
remove_row-by id x es {at} rising false other (Some n) on told =
    let next : at ≡ suc n = omega (arith, some-injective _ at told) in
    rw (next, other) (ap (λ l. row_of x ∷ l) (on n refl))

-- the rows without the entry that is removed
pub remove_row : (id : ℕ) (es : List Entry) {at : ℕ} → AreRising (rows_of es) → place_in id es ≡ Some at →
    rows_of (remove es at) ≡ filter (is_beside id) (rows_of es)
remove_row id [] rising told = absurd (cc)
remove_row id (x ∷ es) rising told =
    remove_row-by id x es rising _ refl _ (λ n on. remove_row id es rising.1 on) told

-- the collections without it
pub collections_beside : (t : Table Node) (id : ℕ) (ss : List CollectionRow) →
    map (collection_in t) (filter (is_beside id) ss) ≡ filter (λ (c : Collection). not (c.id == id)) (map (collection_in t) ss)
collections_beside t id [] = refl
collections_beside t id (s ∷ ss) =
    elim (s.id == id) as (λ b. map (collection_in t) (cond (not b) (s ∷ filter (is_beside id) ss) (filter (is_beside id) ss)) ≡ cond (not b)
    (collection_in t s ∷ filter (λ (c : Collection). not (c.id == id)) (map (collection_in t) ss)) (filter (λ (c : Collection).
    not (c.id == id)) (map (collection_in t) ss))) [
      | true ↦ collections_beside t id ss
      | false ↦ ap (λ l. collection_in t s ∷ l) (collections_beside t id ss)
    ]

-- what holds of all holds of some
all-beside : (P : CollectionRow → Type 0) (id : ℕ) (ss : List CollectionRow) → AllByRecursion P ss →
    AllByRecursion P (filter (is_beside id) ss)
all-beside P id [] all = tt
all-beside P id (s ∷ ss) all =
    elim (s.id == id) as (λ b. AllByRecursion P (cond (not b) (s ∷ filter (is_beside id) ss) (filter (is_beside id) ss))) [
      | true ↦ all-beside P id ss all.1
      | false ↦ (all.0, all-beside P id ss all.1)
    ]

-- the ids still rise
rising-beside : (id : ℕ) (ss : List CollectionRow) → AreRising ss → AreRising (filter (is_beside id) ss)
rising-beside id [] rising = tt
rising-beside id (s ∷ ss) rising =
    elim (s.id == id) as (λ b. AreRising (cond (not b) (s ∷ filter (is_beside id) ss) (filter (is_beside id) ss))) [
      | true ↦ rising-beside id ss rising.1
      | false ↦ (all-beside _ id ss rising.0, rising-beside id ss rising.1)
    ]

-- by whether the first row is left out
keys-beside-by : (id : ℕ) (s : CollectionRow) (ss : List CollectionRow) (here : Bool) → (s.id == id) ≡ here → AreRising (s ∷ ss) →
    option_map_or (λ (x : CollectionRow). x.keys) (cond here (Some s) (find (λ (x : CollectionRow). x.id == id) ss)) [] ≡ [] →
    (option_map_or (λ (x : CollectionRow). x.keys) (find (λ (x : CollectionRow). x.id == id) ss) [] ≡ [] →
    all_keys (filter (is_beside id) ss) ≡ all_keys ss) →
    all_keys (cond (not here) (s ∷ filter (is_beside id) ss) (filter (is_beside id) ss)) ≡ all_keys (s ∷ ss)
keys-beside-by id s ss true here rising none on =
    let low = rw (eqb-true _ id here) at rising.0 in
    rw (none, others_kept id ss low) refl
keys-beside-by id s ss false other rising none on = ap (λ ks. s.keys ++ ks) (on none)

-- the keys stay, where the collection has none
keys-beside : (id : ℕ) (ss : List CollectionRow) → AreRising ss →
    option_map_or (λ (x : CollectionRow). x.keys) (find (λ (x : CollectionRow). x.id == id) ss) [] ≡ [] →
    all_keys (filter (is_beside id) ss) ≡ all_keys ss
keys-beside id [] rising none = refl
keys-beside id (s ∷ ss) rising none = keys-beside-by id s ss _ refl rising none (keys-beside id ss rising.1)

-- all that holds of forests holds
pub kept-beside : {t : Table Node} (id : ℕ) {ss : List CollectionRow} → IsStored t ss →
    option_map_or (λ (x : CollectionRow). x.keys) (find (λ (x : CollectionRow). x.id == id) ss) [] ≡ [] →
    IsStored t (filter (is_beside id) ss)
kept-beside {t} id {ss} ok none =
    let keys = keys-beside id ss ok.rising none in
    record {
      first = ok.first;
      rising = rising-beside id ss ok.rising;
      apart = rw keys ok.apart;
      named = ok.named;
      filed = list_all-filter _ (is_beside id) ss ok.filed;
      there = λ key n is. rw keys (ok.there key n is);
      counted = rw keys ok.counted;
      linked = ok.linked;
      heads = ok.heads;
      whole = all-beside _ id ss ok.whole;
      parents = ok.parents;
      kin = ok.kin;
    }

-- a list of no key
no_key_left : (ks : List NodeKey) → length ks ≡ 0 → ks ≡ []
no_key_left [] none = refl
no_key_left (k ∷ ks) none = absurd (omega arith)

-- by the row
left-by : (t : Table Node) (id : ℕ) (ss : List CollectionRow) → are_filed t ss ≡ true → (o : Option CollectionRow) →
    find (λ (x : CollectionRow). x.id == id) ss ≡ o → option_map_or is_left (option_map (collection_in t) o) false ≡ true →
    option_map_or (λ (x : CollectionRow). x.keys) o [] ≡ []
left-by t id ss filed None found left = refl
left-by t id ss filed (Some s) found left =
    let none : length (nodes_with t s.keys) ≡ 0 = eqb-true _ _ (and_left _ _ left) in
    no_key_left _ (sym (filed-length t _ _ (filed_found t id ss filed s found)) ∙ none)

-- a collection that is left has no key
pub left_none : (t : Table Node) (id : ℕ) (ss : List CollectionRow) → are_filed t ss ≡ true →
    option_map_or is_left (collection_at (forest_of t ss) id) false ≡ true →
    option_map_or (λ (x : CollectionRow). x.keys) (find (λ (x : CollectionRow). x.id == id) ss) [] ≡ []
left_none t id ss filed left = left-by t id ss filed _ refl (ap (λ o.
    option_map_or is_left o false) (sym (collection_is t id ss)) ∙ left)
