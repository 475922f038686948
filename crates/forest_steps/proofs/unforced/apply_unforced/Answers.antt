-- The effect is all that is made.
use Rattle.forest_steps.proofs.Common.{arith, not-true, and_left, and_right, rows_of, place_is}
use Rattle.forest_steps.proofs.mid_event.Counted.{may_make, outcome_still}
use Rattle.forest_store.proofs.rows.Entries.{read_through}
use Rattle.forest_steps.proofs.unforced.apply_unforced.Goals as goal

pub index_mut-requires : goal.index_mut-requires
index_mut-requires c =
    omega (arith, (place_is c.requires.ready.id c.args.store.now.entries.items c.args.at c.requires.ready.place).within)

pub make_effect-requires-clause-may : goal.make_effect-requires-clause-may
make_effect-requires-clause-may c =
    let is = read_through c.args.store.now.entries.items c.args.at c.get_mut.ensures.value c.index_mut.ensures.value in
    may_make _ _ _ c.requires.ready (c.requires.worked c.get_mut.result.now is)

pub returns : goal.returns
returns c =
    let e = c.get_mut.result.now in
    let is = read_through c.args.store.now.entries.items c.args.at c.get_mut.ensures.value c.index_mut.ensures.value in
    let still = c.requires.unforced e is in
    outcome_still _ e is _ _ c.requires.ready _ _ _
    c.make_effect.ensures.becomes c.make_effect.ensures.writes (c.make_effect.ensures.affected (rows_of c.args.store.now.entries.items))
    _ (c.requires.worked e is) (not-true _ (and_left _ _ still)) (and_right _ _ still)
    _ c.assert_disjoint.ensures c.requires.pool
