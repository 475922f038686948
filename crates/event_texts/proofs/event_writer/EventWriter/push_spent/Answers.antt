use Rattle.event_texts.proofs.Common.{Deed, ap, on_ok_weaker, ◌++◌, ◌∙◌}
use Rattle.event_texts.specs.Deeds.{deed_line}
use Rattle.event_texts.specs.RefusalTexts.{spent_text}
use Rattle.event_texts.proofs.event_writer.EventWriter.push_spent.Goals as goal

-- the deed is that of spending the end
pub returns : goal.returns
returns c = on_ok_weaker c.push_spent_deed.result
    (λ put names lines keeps recalls.
    put names lines keeps recalls
    ∙ ap (λ (d : Deed). c.args.facts.now.items ++ spent_text names c.args.key (deed_line lines.deeds d)) c.deed_on.ensures)
    c.push_spent_deed.ensures
