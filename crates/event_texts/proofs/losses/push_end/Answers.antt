use Rattle.event_texts.proofs.Common.{[], codes, name_text, on_ok_weaker}
use Rattle.event_texts.specs.LossTexts.{down_text}
use Rattle.event_texts.proofs.Pieces.{two-and}
use Rattle.event_texts.proofs.losses.push_end.Goals as goal

-- the node's label and the words, and behind them the nodes that end with it
pub returns : goal.returns
returns c = on_ok_weaker c.push_down.result
    (λ put names keeps.
    two-and c.args.text.now.items (name_text names c.args.top) (codes " ends: no node at or below it is live\n")
    (down_text names c.args.scene.now.nodes.items c.args.top []) _ _
    (rw (c.birth_label.ensures names keeps) at c.in_ok-push_parts.ensures) (put names keeps))
    c.push_down.ensures
