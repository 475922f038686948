use Rattle.event_texts.proofs.Common.{arith, node_text}
use Rattle.event_texts.proofs.Loops.{one-read}
use Rattle.event_texts.proofs.words.push_nodes.Goals as goal

-- one more comes last
pub loop-node-preserved : goal.loop-node-preserved
loop-node-preserved c = λ names keeps.
    one-read (node_text names) c.args.nodes.now c.loop-node.node-index _ c.args.text.now.items c.loop-node.text.items
    c.push_node.new.text.items (omega arith) (c.loop-node.invariant names keeps) (c.in_ok-push_node.ensures names keeps)
