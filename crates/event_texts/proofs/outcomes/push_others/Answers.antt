use Rattle.event_texts.proofs.Common.{arith, next_waited, sym}
use Rattle.event_texts.proofs.Loops.{one-more}
use Rattle.event_texts.proofs.outcomes.push_others.Goals as goal

-- one more comes last
pub loop-node-preserved : goal.loop-node-preserved
loop-node-preserved c = λ names keeps calls.
    one-more (next_waited names) c.args.others.now c.loop-node.node-index c.node-item.result c.args.text.now.items c.loop-node.text.items
    c.push_next.new.text.items (omega arith) (sym c.node-item.is) (c.loop-node.invariant names keeps calls)
    (c.in_ok-push_next.ensures names keeps calls)
