use Rattle.std.proofs.lemmas.Result.{on_ok_weaker}
use Rattle.event_texts.specs.RefusalTexts.{spent_by_text}
use Rattle.event_texts.proofs.Pieces.{one-more}
use Rattle.event_texts.proofs.event_writer.reasons.push_spent_by.Goals as goal

-- the two texts
pub returns : goal.returns
unfolding spent_by_text
returns c = on_ok_weaker c.push_since_line.result
    (λ put names keeps. one-more _ _ _ _ (c.in_ok-push_no_end.ensures names keeps) _ put)
    c.push_since_line.ensures
