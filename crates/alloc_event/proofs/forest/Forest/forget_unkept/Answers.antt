-- The forest is what the table and the entries are then.
use Rattle.alloc_event.proofs.Common.{AreServedByGiven, AreUnits, SameKeys-shown, rows_of, subst, sym}
use Rattle.forest_store.proofs.changes.Finishing.{whole-map}
use Rattle.forest_store.proofs.tallies.Slots.{units_over}
use Rattle.forest_steps.proofs.mid_event.GivenKept.{given_over}
use Rattle.alloc_event.proofs.forest.Forest.forget_unkept.Goals as goal

pub invariant_of-self : goal.invariant_of-self
invariant_of-self c = record {
  kept = c.forget_unkept.ensures.kept;
  counted = c.forget_unkept.ensures.counted;
  units = subst (AreUnits c.self.inside.store.nodes.units.items) (sym c.forget_unkept.ensures.collections)
      (units_over c.self.inside.store.nodes.units.items c.args.id _
      (whole-map c.self.inside.store.nodes.table (rows_of c.self.inside.store.entries.items) c.self.invariant.kept.whole)
      c.self.invariant.units);
  given = subst AreServedByGiven (sym c.forget_unkept.ensures.collections) (given_over _ _ c.self.invariant.given);
}

pub returns-clause-keys : goal.returns-clause-keys
returns-clause-keys c =
    rw (← c.self.view_is) (SameKeys-shown _ _ _ _ c.self.invariant.kept.first c.forget_unkept.ensures.keys)

pub returns-clause-collections : goal.returns-clause-collections
returns-clause-collections c = rw (← c.self.view_is) c.forget_unkept.ensures.collections
