-- The order of answers, line by line.
use Rattle.core_state.proofs.Common.{Bound, Call, List, None, Option, Readings, Reply, Some, [], answers_first, closing, end_in_transit}
use Rattle.core_state.proofs.Common.{first_some, limits_met, misuse, no_end, no_handle, option_or, peer_closed, refl, shut_client}
use Rattle.core_state.proofs.Common.{unknown_client, wrong_kind, ℕ, ◌++◌, ◌∷◌, ◌≡◌}
use Rattle.core_state.specs.declared.traits.Traits.{Traits}
use Rattle.core_state.specs.Lines.{limits_of}
use Rattle.core_state.specs.Traits.{Describes}

-- the first of two lists of answers, one behind the other
first_some-append : {A : Type 0} (os ps : List (Option A)) → first_some (os ++ ps) ≡ option_or (first_some os) (first_some ps)
first_some-append [] ps = refl
first_some-append (Some x ∷ os) ps = refl
first_some-append (None ∷ os) ps = first_some-append os ps

-- the lines of what the call names
abbrev pub of_named : Readings → ℕ → Call → List (Option Reply)
of_named r client call =
    no_end r client call ∷ end_in_transit r call ∷ closing call ∷ peer_closed r call ∷ wrong_kind r call ∷ misuse r call ∷ no_handle r
    client call ∷ []

-- the lines stand in this order
pub lines_in_order : (limits : Bound) (r : Readings) (client : ℕ) (call : Call) →
    first_some (answers_first limits r client call)
    ≡ option_or (option_or (option_or (unknown_client r client call) (shut_client r client call)) (first_some (of_named r client call)))
    (first_some (limits_met limits r call))
lines_in_order limits r client call = by (unknown_client r client call) (shut_client r client call)
  where
    -- by cases: the first reply that there is, is the first of all
    by : (a b : Option Reply) → first_some (a ∷ b ∷ (of_named r client call ++ limits_met limits r call))
        ≡ option_or (option_or (option_or a b) (first_some (of_named r client call))) (first_some (limits_met limits r call))
    by (Some x) b = refl
    by None (Some x) = refl
    by None None = first_some-append (of_named r client call) (limits_met limits r call)

-- the limits that a call meets are those that its traits say
pub same_limits : (limits : Bound) (r : Readings) (call : Call) (t : Traits) → Describes call t →
    limits_met limits r call ≡ limits_of limits r t
same_limits limits r call t law = rw (law.node, law.collection, law.tracker, law.handles limits r) refl
