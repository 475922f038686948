use Rattle.buffer_holds.proofs.Common.{ap, count_in, kind_of, ltb-true, part_of, slot_of, sum_of, sym, total, ◌∙◌}
use Rattle.buffer_holds.proofs.Seen.{total_is}
use Rattle.buffer_holds.proofs.holds.Holds.is_unopened.Goals as goal

-- no part of a newer collection has a sum
pub returns : goal.returns
returns c = λ is strength.
    let inside = c.self.inside in
    let part = part_of (kind_of c.args.buffer strength) in
    let none = c.self.invariant.0.newer part (ltb-true inside.newest c.args.buffer.collection is) in
    sym (ap (λ counts. total counts c.args.buffer strength) c.self.view_is)
    ∙ total_is inside.limit inside.places c.self.invariant.0 c.args.buffer strength
    ∙ ap (λ o. count_in (sum_of o).totals (slot_of (kind_of c.args.buffer strength))) none
