use Rattle.play_search.proofs.Common.{AreAllMet, subst, sym, ℕ}
use Rattle.play_search.proofs.ClosingLaws.{all_met}
use Rattle.play_search.proofs.exploring.doubt_of.Goals as goal

-- no turn leads out, so no play is missing
pub returns-clause-met : goal.returns-clause-met
returns-clause-met c = λ none.
    subst (λ (n : ℕ). AreAllMet c.args.ground.now.plans.now c.args.ground.now.vanishing c.args.ground.now.setting n)
    (sym c.args.graph.now.rows.ok.0)
    (all_met c.args.ground.now.plans.now c.args.ground.now.vanishing c.args.ground.now.setting c.args.graph.now.rows.items
    (c.in_ok-doubt.ensures.closed none))

-- nor is an outcome
pub returns-clause-none : goal.returns-clause-none
returns-clause-none c = λ none. c.in_ok-doubt.ensures.none none
