use Rattle.std.proofs.Common.{append-nil, codes, sym}
use Rattle.script_labels.specs.Texts.{node_text}
use Rattle.sm_script.proofs.Viewing.{shown-all, shown-more}
use Rattle.sm_script.proofs.views.push_nodes.Goals as goal

pub loop-node-init : goal.loop-node-init
loop-node-init c = λ names keeps. sym (append-nil _)

pub loop-node-preserved : goal.loop-node-preserved
loop-node-preserved c = λ names keeps.
    shown-more (node_text names) _ _ _ _ (c.loop-node.invariant names keeps) _ _ c.loop-node-test.true
    (c.in_ok-push_node.ensures names keeps)

pub returns : goal.returns
returns c = λ names keeps.
    shown-all (node_text names) _ _ _ _ (c.loop-node.invariant names keeps) c.args.text.now.items
    (codes "live") c.loop-node-test.false c.in_ok-push.ensures.ok
