use Rattle.std.proofs.Common.{◌≡◌, ◌++◌, take}
use Rattle.std.specs.List.{flat_map}
use Rattle.script_labels.specs.Names.{Names}
use Rattle.script_labels.specs.Tables.{Keeps}
use Rattle.event_texts.specs.Called.{Calls}
use Rattle.picture_text.specs.TextPictures.{tree_text}
use Rattle.picture_text.proofs.picture.push_trees.Given as goal

-- those so far
abbrev pub invariant-loop-tree : goal.invariant-loop-tree
invariant-loop-tree l = (names : Names) → Keeps l.event_writer.session.tables names → Calls l.event_writer.labels names →
    l.text.items ≡ l.initial.text.items
    ++ flat_map (tree_text l.event_writer.session.core names l.clients.items) (take l.tree-index l.trees)
