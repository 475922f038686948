use Rattle.forced_marks.proofs.Common.{YieldsList-from_slice, find_from_yields_List, meets, rules, tests, ◌∙◌}
use Rattle.forced_marks.proofs.placement.first_met.Goals as goal

-- the call finds the first that is met
pub returns : goal.returns
returns c =
    c.copied.ensures
    ∙ find_from_yields_List (meets c.args.interval.now) _ _ c.find.result c.find.ensures.ran
    (YieldsList-from_slice c.args.held.now cc) (λ x b q k. search (rules, tests))
