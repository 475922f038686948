use Rattle.event_texts.proofs.Common.{codes, name_text, on_ok_weaker}
use Rattle.event_texts.proofs.Pieces.{four, pair-and}
use Rattle.event_texts.proofs.losses.push_fault.Goals as goal

-- the node's label and the words, and behind them the cause and the reason
pub returns : goal.returns
returns c = on_ok_weaker c.push-2.result
    (λ put names keeps.
    pair-and c.args.text.now.items (name_text names c.args.fault.origin) (codes " fails, ") _ _ _
    (rw (c.birth_label.ensures names keeps) at c.in_ok-push_parts.ensures)
    (four _ _ _ _ _ _ _ _ _ c.in_ok-push_cause.ensures c.in_ok-push.ensures.ok c.in_ok-push_why.ensures put))
    c.push-2.ensures.ok
