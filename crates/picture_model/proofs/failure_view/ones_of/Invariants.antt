use Rattle.std.proofs.Common.{◌≡◌, take}
use Rattle.picture_model.specs.Travels.{ones_of}
use Rattle.picture_model.proofs.failure_view.ones_of.Given as goal

-- those so far
abbrev pub invariant-loop-node : goal.invariant-loop-node
invariant-loop-node l = l.ones.items ≡ ones_of l.count (take l.node-index l.reached.items)
