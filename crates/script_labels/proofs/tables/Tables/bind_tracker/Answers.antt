use Rattle.std.proofs.Common.{◌∙◌, ap, cond, Some, None, if◌then◌else◌, ◌==◌}
use Rattle.std.specs.Option.{option_map_or}
use Rattle.script_lines.specs.Labels.{same_label}
use Rattle.script_labels.proofs.tables.Tables.bind_tracker.Goals as goal

pub returns : goal.returns
returns c = λ names kept. record {
  clients = kept.clients;
  nodes = kept.nodes;
  trackers = λ label. c.in_ok-insert.ensures.updates.0 label
      ∙ ap (cond (same_label c.args.label label) (Some c.args.tracker)) (kept.trackers label);
  births = kept.births;
  roots = kept.roots;
  tracked = λ tracker. c.in_ok-name_once.ensures tracker
      ∙ ap (λ old. option_map_or Some old (if c.args.tracker == tracker then Some c.args.label else None)) (kept.tracked tracker);
}
