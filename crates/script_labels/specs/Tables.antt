-- Which labels the tables of a script keep.
use Rattle.std.specs.Prelude.{ℕ, ◌≡◌, ◌==◌}
use Rattle.std.specs.Map.{lookup}
use Rattle.sm_names.specs.declared.keys.NodeKey.{NodeKey}
use Rattle.sm_names.specs.Sameness.{same_key}
use Rattle.script_lines.specs.declared.label.Label.{Label}
use Rattle.script_lines.specs.Labels.{same_label}
use Rattle.script_labels.specs.declared.tables.Tables.{Tables as Kept}
use Rattle.script_labels.specs.Names.{Names, labelled_client, labelled_place, labelled_tracker, label_of_node, label_of_root, label_of_tracker}

-- the tables find what the labels stand for, and the labels of nodes, roots and trackers
pub record Keeps (tables : Kept) (names : Names) : Type 0 where
  pub clients : (label : Label) → lookup (same_label label) tables.clients.entries ≡ labelled_client names label
  pub nodes : (label : Label) → lookup (same_label label) tables.nodes.entries ≡ labelled_place names label
  pub trackers : (label : Label) → lookup (same_label label) tables.trackers.entries ≡ labelled_tracker names label
  pub births : (node : NodeKey) → lookup (same_key node) tables.births.entries ≡ label_of_node names node
  pub roots : (collection : ℕ) → lookup (λ other. collection == other) tables.roots.entries ≡ label_of_root names collection
  pub tracked : (tracker : ℕ) → lookup (λ other. tracker == other) tables.tracked.entries ≡ label_of_tracker names tracker
