use Rattle.std.proofs.Common.{◌≡◌, ◌++◌, take}
use Rattle.std.specs.List.{flat_map}
use Rattle.script_labels.specs.Names.{Names}
use Rattle.script_labels.specs.Tables.{Keeps}
use Rattle.picture_text.specs.TextPictures.{fired_line}
use Rattle.picture_text.proofs.picture.push_firings.Given as goal

-- those so far
abbrev pub invariant-loop-firing : goal.invariant-loop-firing
invariant-loop-firing l = (names : Names) → Keeps l.tables names →
    l.text.items ≡ l.initial.text.items ++ flat_map (fired_line names) (take l.firing-index l.fired)
