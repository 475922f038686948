-- The effect is worked out of the entry at this place. Nothing is forced by it, or what is forced is made.
use Rattle.alloc_event.proofs.Common.{arith, few_there, one_entry, place_is, read_through, refl, row_there, sym, total, ◌∙◌}
use Rattle.alloc_event.proofs.forced_steps.settle_counted.Goals as goal

pub index-requires : goal.index-requires
index-requires c =
    omega (arith, (place_is c.requires.ready.id c.args.store.now.entries.items c.args.at c.requires.ready.place).within)

pub work_out-made-requires : goal.work_out-made-requires
work_out-made-requires c = row_there c.requires.ready.ready.kept _ _ c.requires.ready.ready.change.named

pub is_unforced-requires : goal.is_unforced-requires
is_unforced-requires c =
    let is = read_through c.args.store.now.entries.items c.args.at c.get-entry.ensures c.index.ensures in
    few_there (total c.args.holds.now) _ c.requires.ready.place is c.requires.ready.ready refl

pub apply_unforced-requires-clause-ready : goal.apply_unforced-requires-clause-ready
apply_unforced-requires-clause-ready c = rw (c.work_out-made.ensures.key, c.work_out-made.ensures.effect) c.requires.ready

pub apply_unforced-requires-clause-worked : goal.apply_unforced-requires-clause-worked
apply_unforced-requires-clause-worked c e is =
    let stands = read_through c.args.store.now.entries.items c.args.at c.get-entry.ensures c.index.ensures in
    rw (one_entry _ _ _ e c.requires.ready.place stands is) at c.work_out-made.ensures.worked

pub apply_unforced-requires-clause-unforced : goal.apply_unforced-requires-clause-unforced
apply_unforced-requires-clause-unforced c e is =
    let stands = read_through c.args.store.now.entries.items c.args.at c.get-entry.ensures c.index.ensures in
    rw (one_entry _ _ _ e c.requires.ready.place stands is) at (sym c.is_unforced.ensures ∙ c.if-is_unforced.true)

pub settle_forced-requires-clause-ready : goal.settle_forced-requires-clause-ready
settle_forced-requires-clause-ready c = rw (c.work_out-made.ensures.key, c.work_out-made.ensures.effect) c.requires.ready

pub settle_forced-requires-clause-worked : goal.settle_forced-requires-clause-worked
settle_forced-requires-clause-worked c e is =
    let stands = read_through c.args.store.now.entries.items c.args.at c.get-entry.ensures c.index.ensures in
    rw (one_entry _ _ _ e c.requires.ready.place stands is) at c.work_out-made.ensures.worked

pub returns-then-is_unforced : goal.returns-then-is_unforced
returns-then-is_unforced c = rw (c.work_out-made.ensures.key, c.work_out-made.ensures.effect) at c.apply_unforced.ensures

pub returns : goal.returns
returns c = rw (c.work_out-made.ensures.key, c.work_out-made.ensures.effect) at c.settle_forced.ensures
