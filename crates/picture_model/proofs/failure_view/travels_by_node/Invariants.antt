use Rattle.std.proofs.Common.{take}
use Rattle.picture_model.specs.Travels.{FindsTravels}
use Rattle.picture_model.proofs.failure_view.travels_by_node.Given as goal

-- those so far
abbrev pub invariant-loop-travel : goal.invariant-loop-travel
invariant-loop-travel l = FindsTravels l.map (take l.travel-index l.travels)
