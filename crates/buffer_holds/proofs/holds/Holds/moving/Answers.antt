use Rattle.buffer_holds.proofs.Common.{ap, count_in, moving_count, sum_in, sym, ◌∙◌}
use Rattle.buffer_holds.proofs.Seen.{moving_is}
use Rattle.buffer_holds.proofs.holds.Holds.moving.Goals as goal

-- the sum has it
pub returns : goal.returns
returns c =
    let inside = c.self.inside in
    c.moving_of.ensures
    ∙ (λ i. count_in (sum_in inside.sums.entries (c.part_of.ensures i)).moving (c.slot_of.ensures.value i))
    ∙ sym (moving_is inside.limit inside.places c.self.invariant.0 c.args.buffer c.args.strength)
    ∙ ap (λ counts. moving_count counts c.args.buffer c.args.strength) c.self.view_is
