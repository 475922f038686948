use Rattle.actor_plays.proofs.Common.{flat_map, take, ◌++◌, ◌≡◌}
use Rattle.actor_plays.specs.Leaves.{those}
use Rattle.actor_plays.proofs.vanish.push_those.Given as goal

-- so far those of these objects
abbrev pub invariant-loop-object : goal.invariant-loop-object
invariant-loop-object l = l.all.items ≡ l.fn.all.items ++ flat_map (those l.sort) (take l.object-index l.objects)
