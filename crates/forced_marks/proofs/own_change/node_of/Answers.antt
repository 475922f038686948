use Rattle.forced_marks.proofs.Common.{YieldsList-from_slice, find_from_yields_List, is_of, rules, tests, ◌∙◌}
use Rattle.forced_marks.proofs.own_change.node_of.Goals as goal

-- the call finds the first that passes
pub returns : goal.returns
returns c =
    c.copied.ensures
    ∙ find_from_yields_List (is_of c.args.key) _ _ c.find.result c.find.ensures.ran
    (YieldsList-from_slice c.args.nodes.now cc) (λ x b q k. search (rules, tests))
