use Rattle.std.proofs.Common.{◌≡◌, ◌++◌, take}
use Rattle.std.specs.List.{flat_map}
use Rattle.script_labels.specs.Names.{Names}
use Rattle.script_labels.specs.Tables.{Keeps}
use Rattle.script_labels.specs.Texts.{held_text}
use Rattle.sm_script.proofs.views.push_buffers.Given as goal

abbrev pub invariant-loop-held : goal.invariant-loop-held
invariant-loop-held l = (names : Names) → Keeps l.tables names →
    l.text.items ≡ l.initial.text.items ++ flat_map (held_text names) (take l.held-index l.buffers)
