-- Which number a new client and a new tracker have.
use Rattle.core_state.proofs.Common.{Bound, Call, NodeKey, Readings, Reply, answer, both_ways, effect, false, inl, inr, is_refusal, refl}
use Rattle.core_state.proofs.Common.{took_effect, took_effect_all, true, ℕ, ◌+◌, ◌≡◌, ◌⊎◌}
use Rattle.core_state.proofs.answers.Passed.{passed}
use Rattle.core_state.proofs.answers.Kinds.{reply-fits}

-- a call that took effect is answered so, or as a Close is
answered : (limits : Bound) (r : Readings) (client : ℕ) (new : NodeKey) (call : Call) (reply : Reply) → took_effect reply ≡ true →
    reply ≡ answer limits r client new call →
    (reply ≡ effect r client new call) ⊎ (reply ≡ Reply.Done)
answered limits r client new (Call.Close key) reply effective told =
    inr ((passed limits r client new (Call.Close key) reply key told (stands reply effective) refl).closed Reply.Done refl)
  where
    -- by cases: a refusal has no effect
    stands : (reply : Reply) → took_effect reply ≡ true → is_refusal reply ≡ false
    stands (Reply.Refused refusal) h = cc
    stands _ h = refl
answered limits r client new call reply effective told = inl (took_effect_all limits r client new call reply effective refl told).answered

-- a client that is told of is numbered by the event
pub joined_number : (limits : Bound) (r : Readings) (client : ℕ) (new : NodeKey) (call : Call) (made : ℕ) →
    Reply.Joined made ≡ answer limits r client new call → made ≡ r.events + 1
joined_number limits r client new Call.Join made told =
    number (took_effect_all limits r client new Call.Join (Reply.Joined made) refl refl told).answered
  where
    -- since `Joined` is injective
    number : Reply.Joined made ≡ Reply.Joined (r.events + 1) → made ≡ r.events + 1
    number is = cc
joined_number limits r client new call made told =
    both_ways false (reply-fits limits r client new call (Reply.Joined made) told) refl
