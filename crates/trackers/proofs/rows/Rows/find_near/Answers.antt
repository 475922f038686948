use Rattle.trackers.proofs.Common.{Found, Place, arith, length, row_at, rows_of, subst, sym, ◌<◌, ◌∙◌, ◌≡◌}
use Rattle.trackers.proofs.SlotLemmas.{found_there}
use Rattle.trackers.proofs.rows.Rows.find_near.Goals as goal

-- the row at the place has the id
pub returns-then-id_at-id : goal.returns-then-id_at-id
returns-then-id_at-id c =
    let slots = c.self.inside.slots.slots in
    let fired = c.self.inside.fired.items in
    let places = c.self.inside.places.items in
    let place : Place = c.index.result.now in
    let same : (row_at slots fired place).id ≡ c.args.id = sym (rw c.deref.ensures.value at c.id_at.ensures) ∙ c.if-id_at-id.true in
    let within : c.args.hint < length places = omega (arith, c.if-hint-len.true, c.len.ensures) in
    rw (← c.self.view_is) (
      row_at slots fired place,
      subst (λ i. Found i (rows_of slots fired places) c.args.hint (row_at slots fired place)) same
          (found_there slots fired places c.args.hint place (sym c.index.ensures) within c.self.invariant.rising),
    )
