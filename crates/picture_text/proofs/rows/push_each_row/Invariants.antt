use Rattle.std.proofs.Common.{◌≡◌, ◌++◌, List, take}
use Rattle.std.specs.List.{flat_map}
use Rattle.sm_names.specs.declared.keys.NodeKey.{NodeKey}
use Rattle.event_facts.specs.KeyMaps.{HasKeys}
use Rattle.script_labels.specs.Names.{Names}
use Rattle.script_labels.specs.Tables.{Keeps}
use Rattle.event_texts.specs.Called.{Calls}
use Rattle.picture_text.specs.TextPictures.{told_row}
use Rattle.picture_text.proofs.rows.push_each_row.Given as goal

-- those so far
abbrev pub invariant-loop-row : goal.invariant-loop-row
invariant-loop-row l = (names : Names) → Keeps l.event_writer.session.tables names → Calls l.event_writer.labels names →
    (keys : List NodeKey) → HasKeys l.left keys →
    l.text.items ≡ l.initial.text.items ++ flat_map (told_row names l.width keys) (take l.row-index l.rows)
