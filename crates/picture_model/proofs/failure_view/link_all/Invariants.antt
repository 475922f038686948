use Rattle.std.proofs.Common.{◌≡◌, ◌++◌, map, take}
use Rattle.picture_model.specs.Travels.{link_down}
use Rattle.picture_model.proofs.failure_view.link_all.Given as goal

-- those so far
abbrev pub invariant-loop-node : goal.invariant-loop-node
invariant-loop-node l = record {
  step : l.trail.step ≡ l.fn.trail.step;
  links : l.trail.travels.items ≡ l.fn.trail.travels.items ++ map (link_down l.steps) (take l.node-index l.reached.items);
}
