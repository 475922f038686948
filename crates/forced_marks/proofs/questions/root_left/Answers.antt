use Rattle.forced_marks.proofs.Common.{YieldsList-from_slice, find_from_yields_List, is_root_left, rules, tests, ◌∙◌}
use Rattle.forced_marks.proofs.questions.root_left.Goals as goal

-- the call finds the first that passes
pub returns : goal.returns
returns c =
    c.copied.ensures
    ∙ find_from_yields_List is_root_left _ _ c.find.result c.find.ensures.ran
    (YieldsList-from_slice c.args.nodes.now cc) (λ x b q k. search (rules, tests))
