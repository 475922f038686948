use Rattle.std.proofs.Common.{◌∙◌, ap, cond, Some, ◌==◌}
use Rattle.script_labels.proofs.recorder.Recorder.call_client.Goals as goal

pub returns : goal.returns
returns c = λ s calls. record {
  names = calls.names;
  clients = λ other. c.in_ok-insert.ensures.updates.0 other
      ∙ ap (cond (c.args.client == other) (Some c.args.label)) (calls.clients other);
}
