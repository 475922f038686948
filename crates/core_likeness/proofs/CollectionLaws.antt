-- The collections of a core, by those that were opened.
use Rattle.core_likeness.proofs.Common.{Birth, Bool, Entry, List, Mixed, NodeKey, None, Option, Shows, Some, State, [], ap, births}
use Rattle.core_likeness.proofs.Common.{collection_at, collection_renamed, cond, cons_option, false, filter, filter_map, held_renamed}
use Rattle.core_likeness.proofs.Common.{is_none, legal_grows, map, mixed-map, node_renamed, node_undated, refl, reverse, roots, subst}
use Rattle.core_likeness.proofs.Common.{sym, timeline, true, undated, ℕ, ◌&&◌, ◌∙◌, ◌∷◌, ◌≡◌}
use Rattle.std.proofs.Common.{option_map}
use Rattle.sm_names.specs.declared.keys.HeldBuffer.{HeldBuffer}
use Rattle.sm_names.specs.Kept.{is_kept_collection}
use Rattle.forest_store.specs.Forest.{Collection}
use Rattle.core_state.specs.Shown.{collection_after}
use Rattle.core_state.proofs.views.Nodes.{collection_is}
use Rattle.core_likeness.proofs.MixedLaws.{mixed-filter_map}

-- Of those that pass the first test, those that pass the second too are told.
told-both : {A B : Type 0} (h : A → ℕ) (p : A → Bool) (k : ℕ → Bool) (f : ℕ → B) (xs : List A) →
    filter_map (λ n. cond (k n) (Some (f n)) None) (map h (filter p xs)) ≡ map f (map h (filter (λ x. p x && k (h x)) xs))
told-both h p k f [] = refl
told-both {A} {B} h p k f (x ∷ xs) =
    elim (p x) as (λ (a : Bool). filter_map (λ n. cond (k n) (Some (f n)) None) (map h (cond a (x ∷ filter p xs) (filter p xs)))
    ≡ map f (map h (cond (a && k (h x)) (x ∷ filter (λ y. p y && k (h y)) xs) (filter (λ y. p y && k (h y)) xs)))) [
      | true ↦ elim (k (h x)) as (λ (b : Bool). cons_option (cond b (Some (f (h x))) None)
          (filter_map (λ n. cond (k n) (Some (f n)) None) (map h (filter p xs)))
          ≡ map f (map h (cond b (x ∷ filter (λ y. p y && k (h y)) xs) (filter (λ y. p y && k (h y)) xs)))) [
            | true ↦ ap (λ (l : List B). f (h x) ∷ l) (told-both h p k f xs)
            | false ↦ told-both h p k f xs
          ]
      | false ↦ told-both h p k f xs
    ]

-- The collections are what is found of those that were opened.
pub collections-found : (s : State) (history : List Entry) → Shows s history →
    s.forest.collections ≡ filter_map (collection_at s.forest) (roots (timeline s.pool history))
collections-found s history shows =
    shows.shown.collections
    ∙ (sym (told-both (λ (b : Birth). b.collection) (λ (b : Birth). is_none b.parent) (is_kept_collection (timeline s.pool history))
    (collection_after s.pool (timeline s.pool history)) (reverse (births (timeline s.pool history))))
    ∙ (λ i. filter_map (λ id. sym (collection_is s (timeline s.pool history) shows.shown s.limits
    (legal_grows s.pool s.limits history shows.legal) id) i) (roots (timeline s.pool history))))

-- ---- what is found, element by element

-- What is told of a list is the elements that are there.
filter_map-there : {A B C : Type 0} (g : B → C) (f : A → Option B) (xs : List A) →
    map g (filter_map f xs) ≡ filter_map (λ (o : Option C). o) (map (λ x. option_map g (f x)) xs)
filter_map-there g f [] = refl
filter_map-there {B = B} {C = C} g f (x ∷ xs) =
    there (f x) (filter_map f xs) (filter_map (λ o. o) (map (λ x. option_map g (f x)) xs)) (filter_map-there g f xs)
  where
    -- by whether something is told
    there : (o : Option B) (us : List B) (vs : List C) → map g us ≡ vs → map g (cons_option o us) ≡ cons_option (option_map g o) vs
    there None us vs same = same
    there (Some b) us vs same = ap (λ (l : List C). g b ∷ l) same

-- Of elements that a function makes it is told of what they are made of.
filter_map-map : {A B C : Type 0} (f : B → Option C) (h : A → B) (xs : List A) → filter_map f (map h xs) ≡ filter_map (λ x. f (h x)) xs
filter_map-map f h [] = refl
filter_map-map f h (x ∷ xs) = ap (cons_option (f (h x))) (filter_map-map f h xs)

-- Where the other finds of the renamed ids what the one finds of the ids, both find the same.
pub found-alike : {A B : Type 0} (to : ℕ → ℕ) (before after : ℕ → Option A) (f g : A → B) (ids others : List ℕ) → Mixed (map to
    ids) others →
    map (λ id. option_map g (after (to id))) ids ≡ map (λ id. option_map f (before id)) ids →
    Mixed (map f (filter_map before ids)) (map g (filter_map after others))
found-alike {A} {B} to before after f g ids others mixed same =
    subst (λ (l : List B). Mixed l (map g (filter_map after others)))
    (ap (map g) (filter_map-map after to ids)
    ∙ (filter_map-there g (λ id. after (to id)) ids
    ∙ (ap (filter_map (λ (o : Option B). o)) same ∙ sym (filter_map-there f before ids))))
    (mixed-map g (filter_map after (map to ids)) (filter_map after others) (mixed-filter_map after (map to ids) others mixed))

-- ---- two cores

-- A held buffer under its own name is itself.
held-itself : (hs : List HeldBuffer) → map (held_renamed (λ i. i)) hs ≡ hs
held-itself [] = refl
held-itself (h ∷ hs) = ap (λ (l : List HeldBuffer). h ∷ l) (held-itself hs)

-- Field by field.
pub copy-alike : (to : NodeKey → NodeKey) (id : ℕ → ℕ) (c d : Collection) → d.id ≡ id c.id → d.buffers ≡ c.buffers →
    map node_undated d.nodes ≡ map (node_renamed to id) c.nodes → d.held ≡ map (held_renamed id) c.held →
    undated d ≡ collection_renamed to id c
copy-alike to id c d same buffers nodes held = λ i. record {
  id = same i;
  nodes = nodes i;
  buffers = buffers i;
  held = (held-itself d.held ∙ held) i;
}

-- The other core has what the one has, where the other finds of the renamed ids what the one finds of the ids.
pub collections-alike : (to : NodeKey → NodeKey) (id : ℕ → ℕ) (s t : State) (first second : List Entry) → Shows s first → Shows t second →
    (ids others : List ℕ) → ids ≡ roots (timeline s.pool first) → others ≡ roots (timeline t.pool second) → Mixed (map id ids) others →
    map (λ i. option_map undated (collection_at t.forest (id i))) ids
    ≡ map (λ i. option_map (collection_renamed to id) (collection_at s.forest i)) ids →
    Mixed (map (collection_renamed to id) s.forest.collections) (map undated t.forest.collections)
collections-alike to id s t first second shows shown ids others ids_are others_are mixed same =
    subst (λ (l : List Collection). Mixed (map (collection_renamed to id) l) (map undated t.forest.collections))
    (ap (filter_map (collection_at s.forest)) ids_are ∙ sym (collections-found s first shows))
    (subst (λ (l : List Collection). Mixed (map (collection_renamed to id) (filter_map (collection_at s.forest) ids)) (map undated l))
    (ap (filter_map (collection_at t.forest)) others_are ∙ sym (collections-found t second shown))
    (found-alike id (collection_at s.forest) (collection_at t.forest) (collection_renamed to id) undated ids others mixed same))
