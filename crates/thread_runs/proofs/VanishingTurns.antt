-- The events of a vanishing client are the turns by which an actor of a play leaves.
use Rattle.thread_runs.proofs.Common.{ActorObject, Bool, Call, HeldObject, Known, List, None, Option, Own, Reply, Some, [], all_objects}
use Rattle.thread_runs.proofs.Common.{ap, append_assoc, calls_of, flat_map, holds_by_state, map, map-append, new_objects, pairs_of, refl}
use Rattle.thread_runs.proofs.Common.{replies_of, sym, vanishing_call, ℕ, ◌++◌, ◌∙◌, ◌∷◌, ◌≡◌}
use Rattle.sm_names.specs.declared.keys.Kind.{Kind}
use Rattle.client_vanish.specs.Vanishings.{Collection, Handle, Token, all_objects as all_held, collections_among, end_told, handle_told}
use Rattle.client_vanish.specs.Vanishings.{handles_among, tokens_among}
use Rattle.client_actors.specs.ActorSteps.{part_of}
use Rattle.actor_plays.specs.Leaves.{vanishing_call as parting_call}
use Rattle.alike_plays.proofs.VanishLaws.{is_collection, is_end, is_handle, is_token, parts_with, picked, picked_there}

-- each of these calls with its reply
abbrev pub paired : List Call → List Reply → List (Call × Reply)
paired [] replies = []
paired (call ∷ calls) [] = []
paired (call ∷ calls) (reply ∷ replies) = (call, reply) ∷ paired calls replies

-- an own list has its calls with their replies, by induction on the list
pub own-paired : (own : List Own) → pairs_of own ≡ paired (calls_of own) (replies_of own)
own-paired [] = refl
own-paired (o ∷ own) = ap (λ (l : List (Call × Reply)). (o.call, o.reply) ∷ l) (own-paired own)

-- ---- both part with the same objects in the same order

-- what two functions make of each element is told alike, so what they make of all is, by induction on the list
alike-flat : {A : Type 0} (one : A → List HeldObject) (other : A → List ActorObject) →
    ((a : A) → map vanishing_call (one a) ≡ map parting_call (other a)) → (all : List A) →
    map vanishing_call (flat_map one all) ≡ map parting_call (flat_map other all)
alike-flat one other same [] = refl
alike-flat one other same (a ∷ all) = map-append vanishing_call (one a) (flat_map one all)
    ∙ ((λ i. same a i ++ alike-flat one other same all i) ∙ sym (map-append parting_call (other a) (flat_map other all)))

-- two lists told alike, and two more behind them, are told alike
alike-append : (a b : List HeldObject) (c d : List ActorObject) → map vanishing_call a ≡ map parting_call c →
    map vanishing_call b ≡ map parting_call d → map vanishing_call (a ++ b) ≡ map parting_call (c ++ d)
alike-append a b c d one other = map-append vanishing_call a b ∙ ((λ i. one i ++ other i) ∙ sym (map-append parting_call c d))

-- functions one after the other, by induction on the list
flat-flat : {A B C : Type 0} (f : A → List B) (g : B → List C) (all : List A) →
    flat_map g (flat_map f all) ≡ flat_map (λ a. flat_map g (f a)) all
flat-flat f g [] = refl
flat-flat f g (a ∷ all) = flat-two g (f a) (flat_map f all) ∙ ap (λ l. flat_map g (f a) ++ l) (flat-flat f g all)
  where
    -- over two lists, by induction on the first
    flat-two : {B C : Type 0} (g : B → List C) (xs ys : List B) → flat_map g (xs ++ ys) ≡ flat_map g xs ++ flat_map g ys
    flat-two g [] ys = refl
    flat-two g (x ∷ xs) ys = ap (λ l. g x ++ l) (flat-two g xs ys) ∙ sym (append_assoc (g x) (flat_map g xs) (flat_map g ys))

-- the ends that a Collect brings
ends-alike : (client : ℕ) (reply : Reply) → map vanishing_call (end_told client reply)
    ≡ map parting_call (flat_map (picked is_end) (new_objects None Call.Collect reply))
ends-alike client (Reply.Collected key Kind.Token collection) = refl
ends-alike client (Reply.Collected key Kind.Collection collection) = refl
ends-alike client _ = refl

-- the handles that it brings
handles-alike : (client : ℕ) (reply : Reply) → map vanishing_call (handle_told client reply)
    ≡ map parting_call (flat_map (picked is_handle) (new_objects None Call.Collect reply))
handles-alike client (Reply.Collected key Kind.Token collection) = refl
handles-alike client (Reply.Collected key Kind.Collection collection) = refl
handles-alike client _ = refl

-- the tokens, the collections and the handles in a slot
tokens-alike : (client : ℕ) (slot : Option ActorObject) →
    map vanishing_call (map Token (flat_map tokens_among (part_of client slot))) ≡ map parting_call (picked_there is_token slot)
tokens-alike client None = refl
tokens-alike client (Some (ActorObject.Token key collection)) = refl
tokens-alike client (Some _) = refl

-- the same of collections
collections-alike : (client : ℕ) (slot : Option ActorObject) →
    map vanishing_call (map Collection (flat_map collections_among (part_of client slot)))
    ≡ map parting_call (picked_there is_collection slot)
collections-alike client None = refl
collections-alike client (Some (ActorObject.Token key collection)) = refl
collections-alike client (Some _) = refl

-- and of handles
held-alike : (client : ℕ) (slot : Option ActorObject) →
    map vanishing_call (map Handle (flat_map handles_among (part_of client slot))) ≡ map parting_call (picked_there is_handle slot)
held-alike client None = refl
held-alike client (Some (ActorObject.Token key collection)) = refl
held-alike client (Some _) = refl

-- a constructor over what a function makes of each element, by induction on the list
map-flat : {A B : Type 0} (make : B → HeldObject) (f : A → List B) (all : List A) →
    map make (flat_map f all) ≡ flat_map (λ a. map make (f a)) all
map-flat make f [] = refl
map-flat make f (a ∷ all) = map-append make (f a) (flat_map f all) ∙ ap (λ l. map make (f a) ++ l) (map-flat make f all)

-- the objects that pass a test in all slots
slots-alike : {T : Type 0} (make : T → HeldObject) (among : HeldObject → List T) (test : ActorObject → Bool) (client : ℕ) →
    ((slot : Option ActorObject) →
    map vanishing_call (map make (flat_map among (part_of client slot))) ≡ map parting_call (picked_there test slot)) →
    (slots : List (Option ActorObject)) →
    map vanishing_call (map make (flat_map among (flat_map (part_of client) slots))) ≡ map parting_call (flat_map (picked_there test) slots)
slots-alike make among test client same slots =
    ap (λ l. map vanishing_call (map make l)) (flat-flat (part_of client) among slots)
    ∙ (ap (map vanishing_call) (map-flat make (λ slot. flat_map among (part_of client slot)) slots)
    ∙ alike-flat (λ slot. map make (flat_map among (part_of client slot))) (picked_there test) same slots)

-- what collects brought, of that which passes a test
brought-alike : (one : Reply → List HeldObject) (test : ActorObject → Bool) →
    ((reply : Reply) → map vanishing_call (one reply) ≡ map parting_call (flat_map (picked test) (new_objects None Call.Collect reply))) →
    (told : List Reply) →
    map vanishing_call (flat_map one told) ≡ map parting_call (flat_map (picked test) (flat_map (new_objects None Call.Collect) told))
brought-alike one test same told =
    alike-flat one (λ reply. flat_map (picked test) (new_objects None Call.Collect reply)) same told
    ∙ ap (map parting_call) (sym (flat-flat (new_objects None Call.Collect) (picked test) told))

-- so all that a vanishing client closes is all with which an actor parts
pub objects-alike : (client : ℕ) (told : List Reply) (state : Known) →
    map vanishing_call (all_held client told (holds_by_state client state))
    ≡ map parting_call (all_objects (flat_map (new_objects None Call.Collect) told) state.objects)
objects-alike client told state =
    alike-append _ _ _ _ (brought-alike (end_told client) is_end (ends-alike client) told)
    (alike-append _ _ _ _ (slots-alike Token tokens_among is_token client (tokens-alike client) state.objects)
    (alike-append _ _ _ _ (slots-alike Collection collections_among is_collection client (collections-alike client) state.objects)
    (alike-append _ _ _ _ (brought-alike (handle_told client) is_handle (handles-alike client) told)
    (slots-alike Handle handles_among is_handle client (held-alike client) state.objects))))
    ∙ ap (map parting_call) (sym (parts_with (flat_map (new_objects None Call.Collect) told) state.objects))
