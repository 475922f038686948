use Rattle.std.proofs.Common.{◌∙◌, ap, cond, Some, ◌==◌}
use Rattle.event_texts.proofs.labels.Labels.call_client.Goals as goal

pub returns : goal.returns
returns c = λ names calls. record {
  clients = λ other. c.in_ok-insert.ensures.updates.0 other
      ∙ ap (cond (c.args.client == other) (Some c.args.label)) (calls.clients other);
  nodes = calls.nodes;
}
