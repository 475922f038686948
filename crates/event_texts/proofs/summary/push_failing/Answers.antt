use Rattle.event_texts.proofs.Common.{codes, colon, counted, length, on_ok_weaker}
use Rattle.event_texts.specs.SummaryTexts.{failing_text}
use Rattle.event_texts.proofs.Pieces.{three-two}
use Rattle.event_texts.proofs.summary.push_failing.Goals as goal

-- the words, the numbers, and the end of the line
pub returns : goal.returns
unfolding failing_text
returns c = on_ok_weaker c.push.result
    (λ put.
    let count = length c.args.failing.now in
    three-two c.args.text.now.items (codes "failed  ") (counted count (codes "event")) (colon count) _ _ _ _ _
    (rw c.colon.ensures at c.in_ok-push_parts.ensures) c.in_ok-push_numbers.ensures put)
    c.push.ensures.ok
