use Rattle.event_texts.proofs.Common.{Some, ap, cond, same_key, ◌∙◌}
use Rattle.event_texts.proofs.labels.Labels.call_node.Goals as goal

pub returns : goal.returns
returns c = λ names collection calls. record {
  clients = calls.clients;
  nodes = λ other. c.in_ok-insert.ensures.updates.0 other
      ∙ ap (cond (same_key c.args.node other) (Some c.args.label)) (calls.nodes other);
}
