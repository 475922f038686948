use Rattle.play_likeness.proofs.Common.{made_of, take, ◌≡◌}
use Rattle.play_likeness.proofs.made.making.Given as goal

-- so far those of these
abbrev pub invariant-loop-entry : goal.invariant-loop-entry
invariant-loop-entry l = l.making.items ≡ made_of (take l.entry-index l.made)
