use Rattle.failure_domains.proofs.Common.{arith, common_steps}
use Rattle.failure_domains.proofs.Bounds.{keys_are_within}
use Rattle.failure_domains.proofs.walks.walk_within.Goals as goal

-- what the walk lists is what lies within the bound
pub returns-clause-keys : goal.returns-clause-keys
returns-clause-keys g c =
    keys_are_within (g.B.WalkBound.stops c.args.bound.now) c.args.table.now c.args.top c.in-Ok.ensures.forest c.walk.new.keys.items
    c.in-Ok.ensures.keys

-- by arithmetic and the usual steps
pub returns-clause-layers : goal.returns-clause-layers
returns-clause-layers g c = grind (arith, common_steps)
