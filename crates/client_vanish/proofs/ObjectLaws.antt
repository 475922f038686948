-- Stacks of objects, and objects by kind.
use Rattle.client_vanish.proofs.Common.{Collection, Grip, Handle, HasRoomFor, Held, HeldObject, Holds, List, ParcelContent, Tag, Token}
use Rattle.client_vanish.proofs.Common.{[], ap, append-nil, append_assoc, arith, both, collections_among, flat_map, handles_among}
use Rattle.client_vanish.proofs.Common.{held_in, length, length-append, map, object_of, refl, sorted, sym, tokens_among, top_first, ◌++◌}
use Rattle.client_vanish.proofs.Common.{◌+◌, ◌∙◌, ◌∷◌, ◌≡◌}
use Rattle.std.specs.Prelude.{vec_capacity}
use Rattle.std.proofs.lemmas.List.{reverse-append}
use Rattle.client_vanish.specs.Stacks.{sorted_one}

-- the last one that is put on a stack is its top
pub top_push : {E S W : Type 0} (items : List (ParcelContent E S W)) (e : ParcelContent E S W) →
    top_first (items ++ e ∷ []) ≡ object_of e ∷ top_first items
top_push items e = ap (map object_of) (reverse-append items (e ∷ []))

-- the objects of a list come one by one
pub flat-append : {A B : Type 0} (f : A → List B) (xs ys : List A) → flat_map f (xs ++ ys) ≡ flat_map f xs ++ flat_map f ys
flat-append f [] ys = refl
flat-append f (x ∷ xs) ys = ap (λ l. f x ++ l) (flat-append f xs ys) ∙ sym (append_assoc (f x) (flat_map f xs) (flat_map f ys))

-- kind by kind too
pub sorted-append : (xs ys : List HeldObject) → sorted (xs ++ ys) ≡ both (sorted xs) (sorted ys)
sorted-append xs ys = λ i. record {
  tokens = flat-append tokens_among xs ys i;
  collections = flat-append collections_among xs ys i;
  handles = flat-append handles_among xs ys i;
}

-- each of the three lists stays as it is where no object is added
pub both_none : (a : Holds) → both a (sorted []) ≡ a
both_none a = λ i. record {
  tokens = append-nil a.tokens i;
  collections = append-nil a.collections i;
  handles = append-nil a.handles i;
}

-- objects of one kind
pub flat_tokens : (ts : List Tag) → flat_map tokens_among (map Token ts) ≡ ts
flat_tokens [] = refl
flat_tokens (t ∷ ts) = ap (λ l. t ∷ l) (flat_tokens ts)

-- the collections among some collections are all of them, in their order
pub flat_collections : (ts : List Tag) → flat_map collections_among (map Collection ts) ≡ ts
flat_collections [] = refl
flat_collections (t ∷ ts) = ap (λ l. t ∷ l) (flat_collections ts)

-- the handles among some handles are all of them, in their order
pub flat_handles : (hs : List Grip) → flat_map handles_among (map Handle hs) ≡ hs
flat_handles [] = refl
flat_handles (h ∷ hs) = ap (λ l. h ∷ l) (flat_handles hs)

-- have none of another
pub no_token_c : (ts : List Tag) → flat_map tokens_among (map Collection ts) ≡ []
no_token_c [] = refl
no_token_c (t ∷ ts) = no_token_c ts

-- a list of handles contains no token
pub no_token_h : (hs : List Grip) → flat_map tokens_among (map Handle hs) ≡ []
no_token_h [] = refl
no_token_h (h ∷ hs) = no_token_h hs

-- a list of tokens contains no collection
pub no_collection_t : (ts : List Tag) → flat_map collections_among (map Token ts) ≡ []
no_collection_t [] = refl
no_collection_t (t ∷ ts) = no_collection_t ts

-- a list of handles contains no collection
pub no_collection_h : (hs : List Grip) → flat_map collections_among (map Handle hs) ≡ []
no_collection_h [] = refl
no_collection_h (h ∷ hs) = no_collection_h hs

-- a list of tokens contains no handle
pub no_handle_t : (ts : List Tag) → flat_map handles_among (map Token ts) ≡ []
no_handle_t [] = refl
no_handle_t (t ∷ ts) = no_handle_t ts

-- a list of collections contains no handle
pub no_handle_c : (ts : List Tag) → flat_map handles_among (map Collection ts) ≡ []
no_handle_c [] = refl
no_handle_c (t ∷ ts) = no_handle_c ts

-- one object, by kind
pub sorted_single : (x : HeldObject) → sorted (x ∷ []) ≡ sorted_one x
sorted_single x = both_none (sorted_one x)

-- ---- room

-- the top comes off a stack
pub top_pop : {E S W : Type 0} (items rest : List (ParcelContent E S W)) (e : ParcelContent E S W) → items ≡ rest ++ e ∷ [] →
    top_first items ≡ object_of e ∷ top_first rest
top_pop items rest e is = ap top_first is ∙ top_push rest e

-- a list with room for all has room for those after the first
pub room_less : {E S W : Type 0} (held : Held E S W) (x : HeldObject) (all later : List HeldObject) →
    all ≡ x ∷ later → HasRoomFor held all →
    HasRoomFor held later
room_less held x all later is room = record {
  tokens = omega (arith, room.tokens, many tokens_among);
  collections = omega (arith, room.collections, many collections_among);
  handles = omega (arith, room.handles, many handles_among);
}
  where
    -- the first one makes its part, and the others theirs
    many : {A : Type 0} (f : HeldObject → List A) → length (flat_map f all) ≡ length (f x) + length (flat_map f later)
    many f = ap (λ l. length (flat_map f l)) is ∙ length-append (f x) (flat_map f later)

-- also after the first was put into its list
pub room_put : {E S W : Type 0} (old new : Held E S W) (x y : HeldObject) (all later : List HeldObject) →
    all ≡ x ∷ later → HasRoomFor old all →
    y ≡ x → held_in new ≡ both (held_in old) (sorted_one y) →
    vec_capacity new.tokens ≡ vec_capacity old.tokens → vec_capacity new.collections ≡ vec_capacity old.collections →
    vec_capacity new.handles ≡ vec_capacity old.handles → HasRoomFor new later
room_put old new x y all later is room same put tokens collections handles = record {
  tokens = omega (
    arith,
    room.tokens,
    many tokens_among,
    grown (λ h. h.tokens),
    length-append (held_in old).tokens (tokens_among y),
    ap (λ t. length (tokens_among t)) same,
    new.tokens.ok.0,
    old.tokens.ok.0,
    tokens,
  );
  collections =
      omega (
        arith,
        room.collections,
        many collections_among,
        grown (λ h. h.collections),
        length-append (held_in old).collections (collections_among y),
        ap (λ t. length (collections_among t)) same,
        new.collections.ok.0,
        old.collections.ok.0,
        collections,
      );
  handles = omega (
    arith,
    room.handles,
    many handles_among,
    grown (λ h. h.handles),
    length-append (held_in old).handles (handles_among y),
    ap (λ t. length (handles_among t)) same,
    new.handles.ok.0,
    old.handles.ok.0,
    handles,
  );
}
  where
    -- the first one makes its part, and the others theirs
    many : {A : Type 0} (f : HeldObject → List A) → length (flat_map f all) ≡ length (f x) + length (flat_map f later)
    many f = ap (λ l. length (flat_map f l)) is ∙ length-append (f x) (flat_map f later)

    -- since the lists grew by what the first one is
    grown : {A : Type 0} (f : Holds → List A) → length (f (held_in new)) ≡ length (f (both (held_in old) (sorted_one y)))
    grown f = ap (λ h. length (f h)) put
