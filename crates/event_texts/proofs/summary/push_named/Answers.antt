use Rattle.event_texts.proofs.Common.{codes, colon, counted, length, on_ok_weaker, waiting_text}
use Rattle.event_texts.proofs.Pieces.{three-two}
use Rattle.event_texts.proofs.summary.push_named.Goals as goal

-- the words, the labels, and the end of the line
pub returns : goal.returns
unfolding waiting_text
returns c = on_ok_weaker c.push.result
    (λ put names keeps.
    let count = length c.args.waiting.now in
    three-two c.args.text.now.items (codes "waiting ") (counted count (codes "tracker")) (colon count) _ _ _ _ _
    (rw c.colon.ensures at c.in_ok-push_parts.ensures) (c.in_ok-push_trackers.ensures names keeps) put)
    c.push.ensures.ok
