use Rattle.std.proofs.Common.{◌∙◌, rules, tests}
use Rattle.std.proofs.lemmas.Iterator.{YieldsList-from_slice}
use Rattle.std.proofs.lemmas.Iterator.Search.{find_from_yields_List}
use Rattle.event_facts.specs.Facts.{is_on_buffer}
use Rattle.event_texts.proofs.event_writer.facts.named.Goals as goal

-- the call finds the first that has the name
pub returns : goal.returns
returns c =
    c.copied.ensures
    ∙ find_from_yields_List (is_on_buffer c.args.buffer) _ _ c.find.result c.find.ensures.ran
    (YieldsList-from_slice c.args.held.now cc) (λ x b q k. search (rules, tests))
