-- An effect that changes no count is worked out by this.
use Rattle.alloc_event.proofs.Common.{arith, few_there, one_entry, place_is, read_through, refl, sym, total, ◌∙◌}
use Rattle.forest_steps.proofs.mid_event.Counted.{counts_kept}
use Rattle.alloc_event.proofs.forced_steps.settle_effect.Goals as goal

pub index-requires : goal.index-requires
index-requires c =
    omega (arith, (place_is c.requires.ready.id c.args.store.now.entries.items c.args.at c.requires.ready.place).within)

pub is_unforced-requires : goal.is_unforced-requires
is_unforced-requires c =
    let is = read_through c.args.store.now.entries.items c.args.at c.get-entry.ensures c.index.ensures in
    few_there (total c.args.holds.now) _ c.requires.ready.place is c.requires.ready.ready refl

pub apply_unforced-requires-clause-worked : goal.apply_unforced-requires-clause-worked
apply_unforced-requires-clause-worked c e is = counts_kept _ (sym c.keeps_counts.ensures ∙ c.if-keeps_counts.true)

pub apply_unforced-requires-clause-unforced : goal.apply_unforced-requires-clause-unforced
apply_unforced-requires-clause-unforced c e is =
    let stands = read_through c.args.store.now.entries.items c.args.at c.get-entry.ensures c.index.ensures in
    rw (one_entry _ _ _ e c.requires.ready.place stands is) at (sym c.is_unforced.ensures ∙ c.if-is_unforced.true)
