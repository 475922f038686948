use Rattle.trackers.proofs.Common.{TrackerRow, ap, arith, common_steps, length, refl, rows_of, set, sym, vec_capacity, ◌<◌, ◌∙◌}
use Rattle.std.proofs.Common.{◌^◌, min}
use Rattle.trackers.proofs.SlotLemmas.{kept_with, rows_long, row_there, at_place}
use Rattle.trackers.proofs.rows.Rows.take.Goals as goal

-- the other rows stay
pub invariant_of-self : goal.invariant_of-self
invariant_of-self c =
    let taken = rw c.deref.ensures.value at c.take_at.ensures.taken in
    let kept = rw c.deref.ensures.value at c.take_at.ensures.kept in
    let within = rw (← c.self.view_is) at c.requires in
    (at_place c.self.inside.slots.slots c.take_at.new.slots.slots c.self.inside.fired.items c.self.inside.fired.items
    (omega arith) (λ n l. refl)
    c.index_mut.result.now c.take_at.ensures.others c.self.inside.places.items c.self.invariant c.args.at (sym c.index_mut.ensures.value)
    (omega (arith, within, rows_long c.self.inside.slots.slots c.self.inside.fired.items c.self.inside.places.items))
    c.take_at.new.place kept (ap (λ (r : TrackerRow). r.id) taken)).1

-- and of its own only that the reader was taken is another
pub returns-clause-taken : goal.returns-clause-taken
returns-clause-taken c = λ d.
    let taken = rw c.deref.ensures.value at c.take_at.ensures.taken in
    let kept = rw c.deref.ensures.value at c.take_at.ensures.kept in
    let within = rw (← c.self.view_is) at c.requires in
    let inside : c.args.at < length c.self.inside.places.items =
    omega (arith, within, rows_long c.self.inside.slots.slots c.self.inside.fired.items c.self.inside.places.items) in
    let here = row_there c.self.inside.slots.slots c.self.inside.fired.items c.self.inside.places.items c.args.at c.index_mut.result.now
    (sym c.index_mut.ensures.value) inside d in
    let all = (at_place c.self.inside.slots.slots c.take_at.new.slots.slots c.self.inside.fired.items c.self.inside.fired.items
    (omega arith)
    (λ n l. refl)
    c.index_mut.result.now c.take_at.ensures.others c.self.inside.places.items c.self.invariant c.args.at (sym c.index_mut.ensures.value)
    inside
    c.take_at.new.place kept (ap (λ (r : TrackerRow). r.id) taken)).0 in
    rw (← c.self.view_is, here) (ap
    (λ rows. kept_with rows c.self.inside.fired.items (min (vec_capacity c.self.inside.fired) (2 ^ 32)))
    (all ∙ ap (set (rows_of c.self.inside.slots.slots c.self.inside.fired.items c.self.inside.places.items) c.args.at) taken))

-- by arithmetic and the usual steps
pub index_mut-requires : goal.index_mut-requires
index_mut-requires c = grind (arith, common_steps)

pub take_at-requires : goal.take_at-requires
take_at-requires c = grind (arith, common_steps)

pub returns-clause-reader : goal.returns-clause-reader
returns-clause-reader c = grind (arith, common_steps)
