-- What was finished is told of the forest.
use Rattle.alloc_event.proofs.Common.{Settled, Some, forest_after, forest_of, refl, rows_of, subst, sym, total}
use Rattle.alloc_event.proofs.changes.SettledChanges.{settled_birth, settled_change, no_birth}
use Rattle.alloc_event.proofs.forest.Forest.settle.Goals as goal

pub returns-in-Birth-clause-ok : goal.returns-in-Birth-clause-ok
returns-in-Birth-clause-ok c =
    let settled = settled_birth c.args.pool.now.size (total c.args.holds.now) c.settle_birth.new.store.nodes.table
    (rows_of c.settle_birth.new.store.entries.items) c.self.invariant.kept c.args.collection
    c.in-Birth.parent c.in-Birth.attached c.in-Birth.client c.in-Birth.event c.in_ok-key.ensures.ok.finishes
    c.in_ok-key.ensures.ok.gives in
    let told = subst (λ change.
    Settled c.args.pool.now.size (total c.args.holds.now)
    (forest_of c.self.inside.store.nodes.table (rows_of c.self.inside.store.entries.items))
    (forest_of c.settle_birth.new.store.nodes.table (rows_of c.settle_birth.new.store.entries.items)) c.args.collection change
    (Some c.in_ok-key.key)) (sym c.in-Birth.is) settled in
    subst (λ f. Settled c.args.pool.now.size (total c.args.holds.now) f (forest_of c.settle_birth.new.store.nodes.table
    (rows_of c.settle_birth.new.store.entries.items)) c.args.collection c.args.change (Some c.in_ok-key.key)) c.self.view_is told

-- what holds of each forest holds then
pub invariant_of-self-2 : goal.invariant_of-self-2
invariant_of-self-2 c =
    forest_after _ (no_birth _ c.in_default.not-Birth) c.self.invariant
    c.settle_change.ensures.outcome c.settle_change.ensures.units

pub returns : goal.returns
returns c =
    let outcome = c.in_ok-settle_change.ensures.outcome in
    let made = outcome.settled refl in
    let settled = settled_change _ _ _ _ c.self.invariant.kept _
    _ (no_birth _ c.in_default.not-Birth) made.finishes outcome.same in
    record {
      ok = rw c.self.view_is at settled;
      pool = made.holds;
      size = outcome.size;
      kept = tt;
    }
