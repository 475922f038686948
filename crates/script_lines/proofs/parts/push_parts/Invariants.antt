use Rattle.std.proofs.Common.{◌≡◌, ◌++◌, take}
use Rattle.std.specs.List.{flat_map}
use Rattle.script_lines.specs.Parts.{text_of}
use Rattle.script_lines.proofs.parts.push_parts.Given as goal

-- so far the texts of these parts
abbrev pub invariant-loop-part : goal.invariant-loop-part
invariant-loop-part l = l.text.items ≡ l.initial.text.items ++ flat_map text_of (take l.part-index l.parts)
