-- What an answer that is no refusal has passed.
use Rattle.history_laws.proofs.Common.{Bool, Bound, Call, IsAnswer, List, NodeKey, None, OpenEnd, Option, Readings, Refusal, Reply, Some}
use Rattle.history_laws.proofs.Common.{Timeline, answer, ap, both_ways, closing, effect, end_in_transit, end_named, false, first_some}
use Rattle.history_laws.proofs.Common.{key_of, limits_met, misuse, no_end, no_handle, option_and_then, option_map_or, peer_closed}
use Rattle.history_laws.proofs.Common.{readings, refl, refused_if, shut_client, true, unknown_client, unwrap_or, wrong_kind, ℕ, ◌∙◌, ◌∷◌}
use Rattle.history_laws.proofs.Common.{◌≡◌}
use Rattle.sm_names.specs.Answers.{new_key}
use Rattle.history_laws.proofs.BirthLaws.{HasEnd, has_end}

-- the reply refuses the call
abbrev pub is_refusal : Reply → Bool
is_refusal (Reply.Refused refusal) = true
is_refusal _ = false

-- if there is an answer here, it is a refusal
abbrev pub Rejects : Option Reply → Type 0
Rejects o = (reply : Reply) → o ≡ Some reply → is_refusal reply ≡ true

-- a refusal under a test
pub rejects_if : (b : Bool) (refusal : Refusal) → Rejects (refused_if b refusal)
rejects_if true refusal reply h = let is : Reply.Refused refusal ≡ reply = cc in rw (← is) refl
rejects_if false refusal reply h = cc

-- or of something that is there
pub rejects_then : {A : Type 0} (f : A → Option Reply) → ((x : A) → Rejects (f x)) → (o : Option A) → Rejects (option_and_then f o)
rejects_then f each None reply h = cc
rejects_then f each (Some x) reply h = each x reply h

-- the tests of the order of answers that only refuse
pub unknown_rejects : (r : Readings) (client : ℕ) (call : Call) → Rejects (unknown_client r client call)
unknown_rejects r client Call.Join = rejects_if _ _
unknown_rejects r client _ = rejects_if _ _

-- of the clients
pub shut_rejects : (r : Readings) (client : ℕ) (call : Call) → Rejects (shut_client r client call)
shut_rejects r client call = rejects_if _ _

-- of the end
pub no_end_rejects : (r : Readings) (client : ℕ) (call : Call) → Rejects (no_end r client call)
no_end_rejects r client call = rejects_then _ (λ key. rejects_if _ _) (key_of call)

-- of its parcel
pub in_transit_rejects : (r : Readings) (call : Call) → Rejects (end_in_transit r call)
in_transit_rejects r call = rejects_then _ (λ (e : OpenEnd). rejects_if _ _) (end_named r call)

-- of its kind
pub wrong_kind_rejects : (r : Readings) (call : Call) → Rejects (wrong_kind r call)
wrong_kind_rejects r call = rejects_then _ (λ (e : OpenEnd). rejects_if _ _) (end_named r call)

-- an answer that is no refusal comes after one that rejects
pub strip : (o : Option Reply) (rest : List (Option Reply)) (e reply : Reply) → Rejects o → is_refusal reply ≡ false →
    reply ≡ unwrap_or (first_some (o ∷ rest)) e →
    (o ≡ None) × (reply ≡ unwrap_or (first_some rest) e)
strip None rest e reply rejects stands is = (refl, is)
strip (Some x) rest e reply rejects stands is = both_ways (is_refusal reply) (ap is_refusal is ∙ rejects x refl) stands

-- a call that is not refused names an end that is there, if it names one
pub not_refused_end : (limits : Bound) (marks : Timeline) (client : ℕ) (call : Call) (reply : Reply) (key : NodeKey) →
    IsAnswer limits (readings marks) client call reply →
    is_refusal reply ≡ false → key_of call ≡ Some key → HasEnd marks key
not_refused_end limits marks client call reply key answer stands is =
    let r : Readings = readings marks in
    let e : Reply = effect r client (option_map_or (λ key. key) (new_key reply) (record { slot = 0; generation = 0 })) call in
    let last : List (Option Reply) = end_in_transit r call ∷ closing call ∷ peer_closed r call ∷ wrong_kind r call ∷ misuse r
    call ∷ no_handle r client call ∷ limits_met limits r call in
    let a = strip (unknown_client r client call) (shut_client r client call ∷ no_end r client call ∷ last) e reply
    (unknown_rejects r client call) stands answer.told in
    let b = strip (shut_client r client call) (no_end r client call ∷ last) e reply (shut_rejects r client call) stands a.1 in
    let c = strip (no_end r client call) last e reply (no_end_rejects r client call) stands b.1 in
    has_end marks client call key c.0 is
