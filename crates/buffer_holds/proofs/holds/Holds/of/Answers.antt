use Rattle.buffer_holds.proofs.Common.{ap, count_in, hold_of, of, page_in, sym, unwrap_or, ◌∙◌}
use Rattle.buffer_holds.proofs.Seen.{row_is}
use Rattle.buffer_holds.proofs.holds.Holds.of.Goals as goal

-- what is in the cell is the row
pub returns : goal.returns
returns c =
    let rows = c.self.inside.rows.entries in
    c.count_of.ensures
    ∙ (λ i. count_in (page_in rows (c.owner_of-owner.ensures i)) (c.slot_of.ensures.value i))
    ∙ ap (λ o. unwrap_or o 0) (sym (row_is c.self.invariant.0 (hold_of c.args.client c.args.buffer c.args.strength)))
    ∙ ap (λ counts. of counts c.args.client c.args.buffer c.args.strength) c.self.view_is
