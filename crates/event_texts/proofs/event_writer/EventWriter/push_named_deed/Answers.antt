use Rattle.event_texts.proofs.Common.{Deed, ap, on_ok_weaker, ◌++◌, ◌∙◌}
use Rattle.event_texts.specs.Deeds.{deed_since}
use Rattle.event_texts.specs.RefusalTexts.{named_deed_text, named_text}
use Rattle.event_texts.proofs.Pieces.{one-more}
use Rattle.event_texts.proofs.event_writer.EventWriter.push_named_deed.Goals as goal

-- the two texts
pub returns : goal.returns
unfolding named_deed_text
returns c = on_ok_weaker c.push_deed.result
    (λ put names lines keeps recalls.
    one-more _ _ _ _ (c.in_ok-push_named.ensures names keeps) _ (put lines recalls)
    ∙ ap (λ (d : Deed). c.args.facts.now.items
    ++ (named_text names c.args.before.now c.args.key c.args.behind.now ++ deed_since lines.deeds d)) c.deed_on.ensures)
    c.push_deed.ensures
