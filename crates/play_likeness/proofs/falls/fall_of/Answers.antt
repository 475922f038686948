use Rattle.play_likeness.proofs.Common.{GoneNode, same_key, ◌∙◌}
use Rattle.std.proofs.Common.{rules, tests}
use Rattle.std.proofs.lemmas.Iterator.{YieldsList-from_slice}
use Rattle.std.proofs.lemmas.Iterator.Search.{find_from_yields_List}
use Rattle.play_likeness.proofs.falls.fall_of.Goals as goal

-- the call finds the first that passes
pub returns : goal.returns
returns c =
    c.copied.ensures
    ∙ find_from_yields_List (λ (f : GoneNode). same_key f.key c.args.key) _ _ c.find.result c.find.ensures.ran
    (YieldsList-from_slice c.args.falls.now cc) (λ x b q k. search (rules, tests))
