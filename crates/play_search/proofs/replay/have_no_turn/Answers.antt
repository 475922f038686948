use Rattle.play_search.proofs.Common.{add-one, eq-or-lt_of_le, inl, inr, le_of_suc-le-suc, subst, sym, ℕ, ◌<◌, ◌≡◌, ◌⊎◌}
use Rattle.play_search.specs.Searches.{HasNoTurn}
use Rattle.play_search.proofs.replay.have_no_turn.Goals as goal

-- one actor more makes no turn: it is that one, or one before it
one_more : (P : ℕ → Type 0) (n : ℕ) → ((k : ℕ) → k < n → P k) → P n → (k : ℕ) → (k ≡ n) ⊎ (k < n) → P k
one_more P n before here k (inl same) = subst P (sym same) here
one_more P n before here k (inr less) = before k less

pub actors-preserved : goal.actors-preserved
actors-preserved c = λ actor less.
    one_more (HasNoTurn c.args.ground.now.plans.now c.args.ground.now.vanishing c.args.ground.now.setting c.args.turns.now)
    c.actors.actor c.actors.invariant (c.in_ok-has_no_turn.ensures c.if-not-branch.false) actor
    (eq-or-lt_of_le (le_of_suc-le-suc (subst (λ n. actor < n) (add-one c.actors.actor) less)))
