use Rattle.buffer_holds.proofs.Common.{Counts, ap, arith, kind_of, ltb-true, part_of, slot_of, total, ◌<◌}
use Rattle.buffer_holds.proofs.Seen.{total_is}
use Rattle.buffer_holds.proofs.holds.Holds.have_room.Goals as goal

-- no more of any kind are open
pub returns : goal.returns
returns c = λ is buffer strength.
    let inside = c.self.inside in
    let kind = kind_of buffer strength in
    let less : inside.most < inside.limit = ltb-true inside.most inside.limit is in
    omega (
      arith,
      less,
      c.self.invariant.1 (part_of kind) (slot_of kind),
      total_is inside.limit inside.places c.self.invariant.0 buffer strength,
      ap (λ counts. total counts buffer strength) c.self.view_is,
      ap (λ (counts : Counts). counts.limit) c.self.view_is,
    )
