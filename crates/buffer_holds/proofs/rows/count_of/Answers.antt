use Rattle.buffer_holds.proofs.Common.{ap, count_in, page_of, same_owner, sym, ◌∙◌}
use Rattle.buffer_holds.specs.contracts.names.OwnerPartialEq.TheImpl.{eq-value as derived}
use Rattle.buffer_holds.proofs.PageNames.{derived_owner}
use Rattle.buffer_holds.proofs.RowLemmas.{lookup_found, lookup_read_at}
use Rattle.buffer_holds.proofs.rows.count_of.Goals as goal

-- the page that was read is the owner's
pub returns-in-Some : goal.returns-in-Some
returns-in-Some c =
    let rows = c.args.rows.now in
    let found = c.in-Some.ensures.found in
    let here = lookup_read_at derived.it rows c.in-Some.place c.args.owner found.0 found.1 c.get_index.result
    c.get_index.ensures.entry c.get_index.ensures.value c.unwrap.result c.unwrap.ensures in
    let page = lookup_found derived.it same_owner derived_owner rows rows c.args.owner _ (sym here) in
    c.get.ensures ∙ ap (λ o. count_in (page_of o) c.args.slot) (sym page)

-- no page
pub returns-in-None : goal.returns-in-None
returns-in-None c = ap (λ o. count_in (page_of o) c.args.slot) (sym c.in-None.ensures.none)
