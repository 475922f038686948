use Rattle.std.proofs.Common.{◌≡◌, ◌++◌, map, take}
use Rattle.report_io.specs.Reasons.{shown_byte}
use Rattle.report_io.proofs.words.push_shown.Given as goal

-- so far the bytes of these
abbrev pub invariant-loop-byte : goal.invariant-loop-byte
invariant-loop-byte l = l.text.items ≡ l.initial.text.items ++ map shown_byte (take l.byte-index l.word)
