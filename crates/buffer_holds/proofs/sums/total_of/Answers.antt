use Rattle.buffer_holds.proofs.Common.{ap, count_in, same_part, sum_of, sym, ◌∙◌}
use Rattle.buffer_holds.specs.contracts.names.PartPartialEq.TheImpl.{eq-value as derived}
use Rattle.buffer_holds.proofs.PageNames.{derived_part}
use Rattle.buffer_holds.proofs.RowLemmas.{lookup_found, lookup_read_at}
use Rattle.buffer_holds.proofs.sums.total_of.Goals as goal

-- the sum that was read is the part's
pub returns-in-Some : goal.returns-in-Some
returns-in-Some c =
    let sums = c.args.sums.now in
    let found = c.in-Some.ensures.found in
    let here = lookup_read_at derived.it sums c.in-Some.place c.args.part found.0 found.1 c.get_index.result
    c.get_index.ensures.entry c.get_index.ensures.value c.unwrap.result c.unwrap.ensures in
    let sum = lookup_found derived.it same_part derived_part sums sums c.args.part _ (sym here) in
    c.get.ensures ∙ ap (λ o. count_in (sum_of o).totals c.args.slot) (sym sum)

-- no sum
pub returns-in-None : goal.returns-in-None
returns-in-None c = ap (λ o. count_in (sum_of o).totals c.args.slot) (sym c.in-None.ensures.none)
