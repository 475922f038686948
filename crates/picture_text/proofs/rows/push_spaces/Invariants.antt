use Rattle.std.proofs.Common.{◌≡◌, ◌++◌, replicate}
use Rattle.picture_text.proofs.rows.push_spaces.Given as goal

-- this many so far
abbrev pub invariant-loop-at : goal.invariant-loop-at
invariant-loop-at l = l.text.items ≡ l.initial.text.items ++ replicate l.at 32
