use Rattle.event_texts.proofs.Common.{arith, camp_text, sym}
use Rattle.event_texts.proofs.Loops.{one-more}
use Rattle.event_texts.proofs.allocations.push_each_camp.Goals as goal

-- one more comes last
pub loop-node-preserved : goal.loop-node-preserved
loop-node-preserved c = λ names keeps.
    one-more (camp_text names c.args.head) c.args.nodes.now c.loop-node.node-index c.node-item.result
    c.args.text.now.items c.loop-node.text.items
    c.push_camp.new.text.items (omega arith) (sym c.node-item.is) (c.loop-node.invariant names keeps)
    (c.in_ok-push_camp.ensures names keeps)
