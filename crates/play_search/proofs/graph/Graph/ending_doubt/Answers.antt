use Rattle.play_search.proofs.Common.{add-one, eq-or-lt_of_le, inl, inr, le_of_suc-le-suc, subst, sym, ℕ, ◌<◌, ◌≡◌, ◌⊎◌}
use Rattle.play_search.specs.Ends.{IsRowEnded}
use Rattle.play_search.proofs.graph.Graph.ending_doubt.Goals as goal

-- one more does: it is that one, or one before it
one_more : (P : ℕ → Type 0) (n : ℕ) → ((k : ℕ) → k < n → P k) → P n → (k : ℕ) → (k ≡ n) ⊎ (k < n) → P k
one_more P n before here k (inl same) = subst P (sym same) here
one_more P n before here k (inr less) = before k less

pub values-preserved : goal.values-preserved
values-preserved c = λ at less.
    one_more (IsRowEnded c.args.ground.now.plans.now c.args.ground.now.vanishing c.args.ground.now.setting c.args.self.now.rows.items
    c.args.shown.outcomes.now)
    c.values.at c.values.invariant (c.in_ok-is_row_ended.ensures c.if-not-branch.false) at
    (eq-or-lt_of_le (le_of_suc-le-suc (subst (λ n. at < n) (add-one c.values.at) less)))
