use Rattle.std.proofs.Common.{◌≡◌, ◌^◌, ◌<◌, take}
use Rattle.script_lines.specs.Labels.{packed}
use Rattle.script_lines.proofs.label.packed.Given as goal

abbrev pub invariant-loop-byte : goal.invariant-loop-byte
invariant-loop-byte l = (l.code ≡ packed (take l.byte-index l.word)) × (l.code < 256 ^ l.byte-index)
