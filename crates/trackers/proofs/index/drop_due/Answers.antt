use Rattle.trackers.proofs.Common.{Waiter, filter_same, is_waiter_due, not, rules}
use Rattle.trackers.proofs.index.drop_due.Goals as goal

-- the closure computes the test
pub returns : goal.returns
returns g c = filter_same _ (λ (x : Waiter). not (is_waiter_due (g.W.World.seen c.args.world.now) x)) _ (λ x b f' h. search rules) _ _
    c.retain.ensures.filtered
