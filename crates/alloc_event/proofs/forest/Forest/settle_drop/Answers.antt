-- What was finished is told of the forest.
use Rattle.alloc_event.proofs.Common.{Change, None, Settled, forest_after, forest_of, refl, rows_of, subst, total}
use Rattle.alloc_event.proofs.Outcomes.{on_ok}
use Rattle.alloc_event.proofs.changes.SettledChanges.{settled_change}
use Rattle.alloc_event.proofs.forest.Forest.settle_drop.Goals as goal

-- what holds of each forest holds then
pub invariant_of-self : goal.invariant_of-self
invariant_of-self c =
    forest_after _ refl c.self.invariant c.settle_dropped.ensures.outcome c.settle_dropped.ensures.units

pub returns-clause-ok : goal.returns-clause-ok
returns-clause-ok c = on_ok c.settle_dropped.result (λ made.
    subst (λ f. Settled c.args.pool.now.size (total c.args.holds.now) f (forest_of c.settle_dropped.new.store.nodes.table
    (rows_of c.settle_dropped.new.store.entries.items)) c.args.buffer.collection Change.Nothing None) c.self.view_is
    (settled_change c.args.pool.now.size (total c.args.holds.now) c.settle_dropped.new.store.nodes.table
    (rows_of c.settle_dropped.new.store.entries.items) c.self.invariant.kept
    c.args.buffer.collection Change.Nothing refl (c.settle_dropped.ensures.outcome.settled made).finishes
    c.settle_dropped.ensures.outcome.same))
