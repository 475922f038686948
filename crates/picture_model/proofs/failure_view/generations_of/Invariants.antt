use Rattle.std.proofs.Common.{◌≡◌, take}
use Rattle.picture_model.specs.Travels.{FindsReached, generations_of}
use Rattle.picture_model.proofs.failure_view.generations_of.Given as goal

-- those so far
abbrev pub invariant-loop-node : goal.invariant-loop-node
invariant-loop-node l = record {
  nodes : l.all.items ≡ generations_of (take l.node-index l.taken.items);
  found : FindsReached l.generations l.all.items;
}
