use Rattle.std.proofs.Common.{◌∙◌, ap, cond, Some, None, if◌then◌else◌, ◌==◌}
use Rattle.std.specs.Option.{option_map_or}
use Rattle.sm_names.specs.Sameness.{same_key}
use Rattle.script_lines.specs.Labels.{same_label}
use Rattle.script_labels.proofs.tables.Tables.bind_node.Goals as goal

pub returns : goal.returns
returns c = λ names kept. record {
  clients = kept.clients;
  nodes = λ label. c.in_ok-insert.ensures.updates.0 label
      ∙ ap (cond (same_label c.args.label label) (Some (c.args.node, c.args.collection))) (kept.nodes label);
  trackers = kept.trackers;
  births = λ node. c.in_ok-name_once.ensures node
      ∙ ap (λ old. option_map_or Some old (if same_key c.args.node node then Some c.args.label else None)) (kept.births node);
  roots = λ collection. c.in_ok-name_once-2.ensures collection
      ∙ ap (λ old. option_map_or Some old (if c.args.collection == collection then Some c.args.label else None)) (kept.roots collection);
  tracked = kept.tracked;
}
