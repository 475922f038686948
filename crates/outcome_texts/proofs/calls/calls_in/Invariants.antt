use Rattle.outcome_texts.proofs.Common.{[], calls_from, drop, take, ◌++◌, ◌≡◌}
use Rattle.outcome_texts.proofs.calls.calls_in.Given as goal

-- the calls so far, with those of the turns that are left, are all
abbrev pub invariant-turns : goal.invariant-turns
invariant-turns l = l.calls.items ++ calls_from l.found (take l.at l.turns) (drop l.at l.turns) ≡ calls_from l.found [] l.turns
