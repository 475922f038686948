-- With what is left of its objects an actor parts in their order.
use Rattle.alike_plays.proofs.Common.{ActorObject, Bool, In, In-append, List, None, Option, Some, [], all_objects, ap, append-nil, cond}
use Rattle.alike_plays.proofs.Common.{drop, false, flat_map, flat_map-append, inl, inr, map, refl, slice_get, suc, sym, true, zero, ℕ}
use Rattle.alike_plays.proofs.Common.{◌++◌, ◌∙◌, ◌∷◌, ◌≡◌}
use Rattle.std.proofs.lemmas.List.{append_assoc}
use Rattle.alike_plays.proofs.VanishLaws.{is_collection, is_end, is_handle, is_token, picked, picked_there}

-- ---- which objects pass a test

-- The elements of these pass the test.
abbrev pub AllPass : (ActorObject → Bool) → List ActorObject → Type 0
AllPass test xs = (o : ActorObject) → In o xs → test o ≡ true

-- None of these does.
abbrev pub NonePass : (ActorObject → Bool) → List ActorObject → Type 0
NonePass test xs = (o : ActorObject) → In o xs → test o ≡ false

-- Element by element.
pick-all : (test : ActorObject → Bool) (xs : List ActorObject) → AllPass test xs → flat_map (picked test) xs ≡ xs
pick-all test [] all = refl
pick-all test (x ∷ xs) all =
    λ i. cond (all x (inl refl) i) (x ∷ []) [] ++ pick-all test xs (λ o there. all o (inr there)) i

-- Element by element.
pick-none : (test : ActorObject → Bool) (xs : List ActorObject) → NonePass test xs → flat_map (picked test) xs ≡ []
pick-none test [] none = refl
pick-none test (x ∷ xs) none =
    λ i. cond (none x (inl refl) i) (x ∷ []) [] ++ pick-none test xs (λ o there. none o (inr there)) i

-- By the test.
picked_passes : (test : ActorObject → Bool) (x : ActorObject) → AllPass test (picked test x)
picked_passes test x o there = by (test x) refl o there
  where
    -- by the two cases
    by : (b : Bool) → test x ≡ b → (o : ActorObject) → In o (cond b (x ∷ []) []) → test o ≡ true
    by true passes o (inl is) = ap test is ∙ passes
    by true passes o (inr none) = absurd none
    by false passes o none = absurd none

-- Element by element.
pick_passes : (test : ActorObject → Bool) (xs : List ActorObject) → AllPass test (flat_map (picked test) xs)
pick_passes test [] o there = absurd there
pick_passes test (x ∷ xs) o there = elim (In-append (picked test x) (flat_map (picked test) xs) o there) [
  | inl here ↦ picked_passes test x o here
  | inr on ↦ pick_passes test xs o on
]

-- Slot by slot.
there_passes : (test : ActorObject → Bool) (slots : List (Option ActorObject)) → AllPass test (flat_map (picked_there test) slots)
there_passes test [] o there = absurd there
there_passes test (None ∷ slots) o there = there_passes test slots o there
there_passes test (Some x ∷ slots) o there = elim (In-append (picked test x) (flat_map (picked_there test) slots) o there) [
  | inl here ↦ picked_passes test x o here
  | inr on ↦ there_passes test slots o on
]

-- By the object.
end_no_handle : (o : ActorObject) → is_end o ≡ true → is_handle o ≡ false
end_no_handle (ActorObject.Token key collection) is = refl
end_no_handle (ActorObject.Collection key collection) is = refl
end_no_handle (ActorObject.Handle buffer strength) is = sym is

-- By the object.
handle_no_end : (o : ActorObject) → is_handle o ≡ true → is_end o ≡ false
handle_no_end (ActorObject.Token key collection) is = sym is
handle_no_end (ActorObject.Collection key collection) is = sym is
handle_no_end (ActorObject.Handle buffer strength) is = refl

-- By the object.
token_end : (o : ActorObject) → is_token o ≡ true → is_end o ≡ true
token_end (ActorObject.Token key collection) is = refl
token_end (ActorObject.Collection key collection) is = refl
token_end (ActorObject.Handle buffer strength) is = is

-- By the object.
collection_end : (o : ActorObject) → is_collection o ≡ true → is_end o ≡ true
collection_end (ActorObject.Token key collection) is = refl
collection_end (ActorObject.Collection key collection) is = refl
collection_end (ActorObject.Handle buffer strength) is = is

-- By the object.
token_no_collection : (o : ActorObject) → is_token o ≡ true → is_collection o ≡ false
token_no_collection (ActorObject.Token key collection) is = refl
token_no_collection (ActorObject.Collection key collection) is = sym is
token_no_collection (ActorObject.Handle buffer strength) is = refl

-- By the object.
collection_no_token : (o : ActorObject) → is_collection o ≡ true → is_token o ≡ false
collection_no_token (ActorObject.Token key collection) is = sym is
collection_no_token (ActorObject.Collection key collection) is = refl
collection_no_token (ActorObject.Handle buffer strength) is = refl

-- By the object.
handle_no_token : (o : ActorObject) → is_handle o ≡ true → is_token o ≡ false
handle_no_token (ActorObject.Token key collection) is = sym is
handle_no_token (ActorObject.Collection key collection) is = refl
handle_no_token (ActorObject.Handle buffer strength) is = refl

-- By the object.
handle_no_collection : (o : ActorObject) → is_handle o ≡ true → is_collection o ≡ false
handle_no_collection (ActorObject.Token key collection) is = refl
handle_no_collection (ActorObject.Collection key collection) is = sym is
handle_no_collection (ActorObject.Handle buffer strength) is = refl

-- ---- what is picked of what was picked

-- Part by part.
pick-parts : (test : ActorObject → Bool) (collected : List ActorObject) (slots : List (Option ActorObject))
    (ends tokens collections handles others : List ActorObject) →
    flat_map (picked test) (flat_map (picked is_end) collected) ≡ ends →
    flat_map (picked test) (flat_map (picked_there is_token) slots) ≡ tokens →
    flat_map (picked test) (flat_map (picked_there is_collection) slots) ≡ collections →
    flat_map (picked test) (flat_map (picked is_handle) collected) ≡ handles →
    flat_map (picked test) (flat_map (picked_there is_handle) slots) ≡ others →
    flat_map (picked test) (all_objects collected slots) ≡ ends ++ (tokens ++ (collections ++ (handles ++ others)))
pick-parts test collected slots ends tokens collections handles others a b c d e =
    flat_map-append (picked test) (flat_map (picked is_end) collected) _
    ∙ (λ i. a i ++ (flat_map-append (picked test) (flat_map (picked_there is_token) slots) _
    ∙ (λ i. b i ++ (flat_map-append (picked test) (flat_map (picked_there is_collection) slots) _
    ∙ (λ i. c i ++ (flat_map-append (picked test) (flat_map (picked is_handle) collected) _ ∙ (λ i. d i ++ e i)) i)) i)) i)

-- Of what was collected the ends stay.
pub ends-picked : (collected : List ActorObject) →
    flat_map (picked is_end) (all_objects collected []) ≡ flat_map (picked is_end) collected
ends-picked collected =
    pick-parts is_end collected [] (flat_map (picked is_end) collected) [] [] [] []
    (pick-all is_end _ (pick_passes is_end collected)) refl refl
    (pick-none is_end _ (λ o there. handle_no_end o (pick_passes is_handle collected o there))) refl
    ∙ append-nil (flat_map (picked is_end) collected)

-- And the handles.
pub handles-picked : (collected : List ActorObject) →
    flat_map (picked is_handle) (all_objects collected []) ≡ flat_map (picked is_handle) collected
handles-picked collected =
    pick-parts is_handle collected [] [] [] [] (flat_map (picked is_handle) collected) []
    (pick-none is_handle _ (λ o there. end_no_handle o (pick_passes is_end collected o there))) refl refl
    (pick-all is_handle _ (pick_passes is_handle collected)) refl
    ∙ append-nil (flat_map (picked is_handle) collected)

-- Slot by slot.
all-there : (test : ActorObject → Bool) (xs : List ActorObject) → flat_map (picked_there test) (map Some xs) ≡ flat_map (picked test) xs
all-there test [] = refl
all-there test (x ∷ xs) = ap (λ more. picked test x ++ more) (all-there test xs)

-- Of what lies in slots the tokens stay.
pub tokens-there : (slots : List (Option ActorObject)) →
    flat_map (picked_there is_token) (map Some (all_objects [] slots)) ≡ flat_map (picked_there is_token) slots
tokens-there slots =
    all-there is_token (all_objects [] slots)
    ∙ (pick-parts is_token [] slots [] (flat_map (picked_there is_token) slots) [] [] [] refl
    (pick-all is_token _ (there_passes is_token slots))
    (pick-none is_token _ (λ o there. collection_no_token o (there_passes is_collection slots o there))) refl
    (pick-none is_token _ (λ o there. handle_no_token o (there_passes is_handle slots o there)))
    ∙ append-nil (flat_map (picked_there is_token) slots))

-- And the collections.
pub collections-there : (slots : List (Option ActorObject)) →
    flat_map (picked_there is_collection) (map Some (all_objects [] slots)) ≡ flat_map (picked_there is_collection) slots
collections-there slots =
    all-there is_collection (all_objects [] slots)
    ∙ (pick-parts is_collection [] slots [] [] (flat_map (picked_there is_collection) slots) [] [] refl
    (pick-none is_collection _ (λ o there. token_no_collection o (there_passes is_token slots o there)))
    (pick-all is_collection _ (there_passes is_collection slots)) refl
    (pick-none is_collection _ (λ o there. handle_no_collection o (there_passes is_handle slots o there)))
    ∙ append-nil (flat_map (picked_there is_collection) slots))

-- And the handles.
pub handles-there : (slots : List (Option ActorObject)) →
    flat_map (picked_there is_handle) (map Some (all_objects [] slots)) ≡ flat_map (picked_there is_handle) slots
handles-there slots =
    all-there is_handle (all_objects [] slots)
    ∙ pick-parts is_handle [] slots [] [] [] [] (flat_map (picked_there is_handle) slots) refl
    (pick-none is_handle _ (λ o there. end_no_handle o (token_end o (there_passes is_token slots o there))))
    (pick-none is_handle _ (λ o there. end_no_handle o (collection_end o (there_passes is_collection slots o there)))) refl
    (pick-all is_handle _ (there_passes is_handle slots))

-- With one sort behind another in each part, the actor parts with the same: of what it collects then, too.
pub all-sorted : (collected more : List ActorObject) (slots : List (Option ActorObject)) →
    all_objects (all_objects collected [] ++ more) (map Some (all_objects [] slots)) ≡ all_objects (collected ++ more) slots
all-sorted collected more slots =
    λ i. picks is_end (ends-picked collected) i ++ (tokens-there slots i ++ (collections-there slots i
    ++ (picks is_handle (handles-picked collected) i ++ handles-there slots i)))
  where
    -- of both parts
    picks : (test : ActorObject → Bool) →
        flat_map (picked test) (all_objects collected []) ≡ flat_map (picked test) collected →
        flat_map (picked test) (all_objects collected [] ++ more) ≡ flat_map (picked test) (collected ++ more)
    picks test same =
        flat_map-append (picked test) (all_objects collected []) more
        ∙ (ap (λ xs. xs ++ flat_map (picked test) more) same ∙ sym (flat_map-append (picked test) collected more))

-- ---- what is left

-- Ends stand before handles.
parts-in_order : (ends handles : List ActorObject) → AllPass is_end ends → AllPass is_handle handles →
    all_objects (ends ++ handles) [] ≡ ends ++ handles
parts-in_order ends handles all others =
    λ i. (flat_map-append (picked is_end) ends handles ∙ ((λ j. pick-all is_end ends all j
    ++ pick-none is_end handles (λ o there. handle_no_end o (others o there)) j) ∙ append-nil ends)) i
    ++ (append-nil (flat_map (picked is_handle) (ends ++ handles))
    ∙ (flat_map-append (picked is_handle) ends handles ∙ (λ j. pick-none is_handle ends (λ o there. end_no_handle o (all o there)) j
    ++ pick-all is_handle handles others j))) i

-- By how many are behind.
drops-in_order : (n : ℕ) (ends handles : List ActorObject) → AllPass is_end ends → AllPass is_handle handles →
    all_objects (drop n (ends ++ handles)) [] ≡ drop n (ends ++ handles)
drops-in_order zero ends handles all others = parts-in_order ends handles all others
drops-in_order (suc n) [] [] all others = refl
drops-in_order (suc n) [] (x ∷ handles) all others = drops-in_order n [] handles all (λ o there. others o (inr there))
drops-in_order (suc n) (x ∷ ends) handles all others = drops-in_order n ends handles (λ o there. all o (inr there)) others

-- Of two lists.
both_pass : (test : ActorObject → Bool) (xs ys : List ActorObject) → AllPass test xs → AllPass test ys → AllPass test (xs ++ ys)
both_pass test xs ys one other o there = elim (In-append xs ys o there) [
  | inl here ↦ one o here
  | inr on ↦ other o on
]

-- An actor that collected what is left parts with it in the same order.
pub left-in_order : (n : ℕ) (collected : List ActorObject) (slots : List (Option ActorObject)) →
    all_objects (drop n (all_objects collected slots)) [] ≡ drop n (all_objects collected slots)
left-in_order n collected slots =
    ap (λ xs. all_objects (drop n xs) []) (sym same)
    ∙ (drops-in_order n (ends ++ (tokens ++ collections)) (handles ++ others)
    (both_pass is_end ends (tokens ++ collections) (pick_passes is_end collected)
    (both_pass is_end tokens collections (λ o there. token_end o (there_passes is_token slots o there))
    (λ o there. collection_end o (there_passes is_collection slots o there))))
    (both_pass is_handle handles others (pick_passes is_handle collected) (there_passes is_handle slots))
    ∙ ap (drop n) same)
  where
    -- the five parts
    ends : List ActorObject
    ends = flat_map (picked is_end) collected

    -- of slots
    tokens : List ActorObject
    tokens = flat_map (picked_there is_token) slots

    -- of slots
    collections : List ActorObject
    collections = flat_map (picked_there is_collection) slots

    -- collected
    handles : List ActorObject
    handles = flat_map (picked is_handle) collected

    -- of slots
    others : List ActorObject
    others = flat_map (picked_there is_handle) slots

    -- together
    same : (ends ++ (tokens ++ collections)) ++ (handles ++ others) ≡ all_objects collected slots
    same = append_assoc ends (tokens ++ collections) (handles ++ others)
        ∙ ap (λ xs. ends ++ xs) (append_assoc tokens collections (handles ++ others))

-- By the place.
pub first-left : {A : Type 0} (n : ℕ) (xs : List A) → slice_get (drop n xs) 0 ≡ slice_get xs n
first-left zero xs = refl
first-left (suc n) [] = refl
first-left (suc n) (x ∷ xs) = first-left n xs
