-- What comes back of a client that was stopped is the client's own.
use Rattle.client_vanish.proofs.Common.{All, All-append, All-cons, All-head, All-nil, All-tail, AllHeldBy, Bool, Collection, Goes, Grip}
use Rattle.client_vanish.proofs.Common.{Handle, HeldObject, Holds, List, Reply, Seen, Tag, Token, [], ap, collections_among, end_told}
use Rattle.client_vanish.proofs.Common.{false, flat_map, handle_told, handles_among, inl, inr, is_done, kept_of, owner_of, refl, sorted}
use Rattle.client_vanish.proofs.Common.{subst, sym, tokens_among, true, ℕ, ◌++◌, ◌∷◌, ◌≡◌}
use Rattle.client_vanish.specs.Vanishings.{IsBroken}
use Rattle.client_vanish.proofs.VanishingLaws.{owners}

-- where all of both lists pass, all of the first do
first_all : (P : HeldObject → Type 0) (xs ys : List HeldObject) → All P (xs ++ ys) → All P xs
first_all P [] ys all = All-nil P
first_all P (x ∷ xs) ys all = All-cons P x xs (All-head P x (xs ++ ys) all) (first_all P xs ys (All-tail P x (xs ++ ys) all))

-- and all of the second
later_all : (P : HeldObject → Type 0) (xs ys : List HeldObject) → All P (xs ++ ys) → All P ys
later_all P [] ys all = all
later_all P (x ∷ xs) ys all = later_all P xs ys (All-tail P x (xs ++ ys) all)

-- what is kept is some of what there was
kept_all : (P : HeldObject → Type 0) (objects : List HeldObject) (answers : List Reply) → All P objects → All P (kept_of objects answers)
kept_all P [] answers all = All-nil P
kept_all P (t ∷ ts) [] all = All-nil P
kept_all P (t ∷ ts) (a ∷ rest) all = either (kept_all P ts rest (All-tail P t ts all)) (is_done a) refl
  where
    -- by cases: an object whose answer is Done is left out
    either : All P (kept_of ts rest) → (b : Bool) → is_done a ≡ b → All P (kept_of (t ∷ ts) (a ∷ rest))
    either more true done = rw done more
    either more false other = rw other (All-cons P t (kept_of ts rest) (All-head P t ts all) more)

-- the client's objects, each in the list of its kind, are the client's
module _ (client : ℕ) where
  -- the tag of a token that the client holds names the client
  token_own : (t : HeldObject) → owner_of t ≡ client → All (λ (x : Tag). x.client ≡ client) (tokens_among t)
  token_own (Token tag) is = All-cons (λ (x : Tag). x.client ≡ client) tag [] is (All-nil (λ (x : Tag). x.client ≡ client))
  token_own _ is = All-nil (λ (x : Tag). x.client ≡ client)

  -- the tag of a collection that the client holds names the client
  collection_own : (t : HeldObject) → owner_of t ≡ client → All (λ (x : Tag). x.client ≡ client) (collections_among t)
  collection_own (Collection tag) is = All-cons (λ (x : Tag). x.client ≡ client) tag [] is (All-nil (λ (x : Tag). x.client ≡ client))
  collection_own _ is = All-nil (λ (x : Tag). x.client ≡ client)

  -- the grip of a handle that the client holds names the client
  handle_own : (t : HeldObject) → owner_of t ≡ client → All (λ (x : Grip). x.client ≡ client) (handles_among t)
  handle_own (Handle grip) is = All-cons (λ (x : Grip). x.client ≡ client) grip [] is (All-nil (λ (x : Grip). x.client ≡ client))
  handle_own _ is = All-nil (λ (x : Grip). x.client ≡ client)

  -- a property of what each of the client's objects yields holds of what all of them yield
  flat_own : {A : Type 0} (Q : A → Type 0) (f : HeldObject → List A) → ((t : HeldObject) → owner_of t ≡ client → All Q (f t)) →
      (objects : List HeldObject) → All (λ t. owner_of t ≡ client) objects → All Q (flat_map f objects)
  flat_own Q f one [] all = All-nil Q
  flat_own Q f one (t ∷ ts) all =
      All-append Q (f t) (flat_map f ts) (one t (All-head (λ x. owner_of x ≡ client) t ts all)) (flat_own Q f one ts (All-tail (λ x.
      owner_of x ≡ client) t ts all))

  -- the lists by kind of the client's objects hold only entries that name the client
  pub sorted_own : (objects : List HeldObject) → All (λ t. owner_of t ≡ client) objects → AllHeldBy client (sorted objects)
  sorted_own objects all = record {
    tokens = flat_own (λ (x : Tag). x.client ≡ client) tokens_among token_own objects all;
    collections = flat_own (λ (x : Tag). x.client ≡ client) collections_among collection_own objects all;
    handles = flat_own (λ (x : Grip). x.client ≡ client) handles_among handle_own objects all;
  }

-- a client that parts keeps only its own objects
goes_own : (old new : Seen) (held back : Holds) → AllHeldBy old.id held → Goes old new held back → AllHeldBy new.id back
goes_own old new held back of g =
    let P : HeldObject → Type 0 = λ t. owner_of t ≡ old.id in
    let all : All P (g.parted ++ g.left) =
    subst (All P) g.all (owners old.id g.told (flat_map (end_told old.id) g.told) (flat_map (handle_told old.id) g.told) held of refl
    refl) in
    let own : All P (kept_of g.parted g.answers ++ g.left) =
    All-append P (kept_of g.parted g.answers) g.left (kept_all P g.parted g.answers (first_all P g.parted g.left all))
    (later_all P g.parted g.left all) in
    subst (λ n. AllHeldBy n back) (sym g.made.id) (subst (AllHeldBy old.id) (sym g.back_is)
    (sorted_own old.id (kept_of g.parted g.answers ++ g.left) own))

-- nor does one that was stopped
pub broken_own : (old new : Seen) (held back : Holds) → AllHeldBy old.id held → IsBroken old new held back → AllHeldBy new.id back
broken_own old new held back of (inl same) =
    subst (λ n. AllHeldBy n back) (sym (ap (λ (s : Seen). s.id) same.0)) (subst (AllHeldBy old.id) (sym same.1) of)
broken_own old new held back of (inr g) = goes_own old new held back of g
