use Rattle.std.proofs.Common.{◌∙◌, ap, cond, Some}
use Rattle.script_lines.specs.Labels.{same_label}
use Rattle.script_labels.proofs.tables.Tables.bind_client.Goals as goal

pub returns : goal.returns
returns c = λ names kept. record {
  clients = λ label. c.in_ok-insert.ensures.updates.0 label
      ∙ ap (cond (same_label c.args.label label) (Some c.args.client)) (kept.clients label);
  nodes = kept.nodes;
  trackers = kept.trackers;
  births = kept.births;
  roots = kept.roots;
  tracked = kept.tracked;
}
