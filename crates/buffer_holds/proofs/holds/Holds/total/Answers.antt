use Rattle.buffer_holds.proofs.Common.{Counts, IsDistinct, ap, arith, count_in, hold_at, keys_of, page_size, same_hold, same_owner, subst}
use Rattle.buffer_holds.proofs.Common.{sum_in, sym, total, ◌∙◌}
use Rattle.buffer_holds.proofs.PageLemmas.{distinct_flat}
use Rattle.buffer_holds.proofs.PageNames.{hold_law, same_owner-one, same_owner-refl}
use Rattle.buffer_holds.proofs.Seen.{total_is}
use Rattle.buffer_holds.proofs.holds.Holds.total.Goals as goal

-- the sum has it
pub returns-clause-value : goal.returns-clause-value
returns-clause-value c =
    let inside = c.self.inside in
    c.total_of.ensures
    ∙ (λ i. count_in (sum_in inside.sums.entries (c.part_of.ensures i)).totals (c.slot_of.ensures.value i))
    ∙ sym (total_is inside.limit inside.places c.self.invariant.0 c.args.buffer c.args.strength)
    ∙ ap (λ counts. total counts c.args.buffer c.args.strength) c.self.view_is

pub returns-clause-within : goal.returns-clause-within
returns-clause-within c =
    omega (
      arith,
      c.total_of.ensures,
      c.self.invariant.1 c.part_of.result c.slot_of.result,
      c.self.invariant.2,
      ap (λ (counts : Counts). counts.limit) c.self.view_is,
    )

-- no owner has two pages
pub returns-clause-one_row_each : goal.returns-clause-one_row_each
returns-clause-one_row_each c =
    subst (λ (counts : Counts). IsDistinct same_hold (keys_of counts.rows)) c.self.view_is
    (distinct_flat hold_at page_size same_owner same_hold hold_law same_owner-one same_owner-refl c.self.inside.rows.entries
    c.self.invariant.0.rows_distinct)
