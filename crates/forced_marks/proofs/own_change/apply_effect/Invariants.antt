use Rattle.forced_marks.proofs.Common.{affected, drop, map, take, ◌++◌, ◌≡◌}
use Rattle.forced_marks.proofs.own_change.apply_effect.Given as goal

-- those so far are affected
abbrev pub invariant-loop-at : goal.invariant-loop-at
invariant-loop-at l = l.nodes ≡ map (affected l.key l.effect) (take l.at l.fn.nodes) ++ drop l.at l.fn.nodes
