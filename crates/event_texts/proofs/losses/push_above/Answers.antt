use Rattle.event_texts.proofs.Common.{arith, next_above}
use Rattle.event_texts.proofs.Loops.{one-read}
use Rattle.event_texts.proofs.losses.push_above.Goals as goal

-- one more comes last
pub loop-node-preserved : goal.loop-node-preserved
loop-node-preserved c = λ names keeps.
    one-read (next_above names) c.args.others.now c.loop-node.node-index _ c.args.text.now.items c.loop-node.text.items
    c.push_next.new.text.items (omega arith) (c.loop-node.invariant names keeps) (c.in_ok-push_next.ensures names keeps)
