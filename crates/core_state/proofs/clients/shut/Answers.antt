use Rattle.core_state.proofs.Common.{Client, ap, set, sym, ◌∙◌}
use Rattle.core_state.specs.ClientRows.{now_shut}
use Rattle.core_state.proofs.joined.Rows.{one_changed, none_changed, finds_none}
use Rattle.core_state.proofs.clients.shut.Goals as goal

-- the row of the client
pub returns-in-Some : goal.returns-in-Some
returns-in-Some c =
    let rows = c.args.clients.now.items in
    let place = sym (rw c.deref.ensures.value at c.place_of.ensures) ∙ c.in-Some.is in
    ap (λ (r : Client). set rows c.in-Some.at r) c.shut.ensures
    ∙ one_changed c.args.client now_shut rows c.in-Some.at c.index_mut.result.now c.requires place c.index_mut.ensures.value

pub returns-in_default : goal.returns-in_default
returns-in_default c =
    let rows = c.args.clients.now.items in
    let nowhere = sym (rw c.deref.ensures.value at c.place_of.ensures) ∙ c.in_default.is in
    sym (none_changed c.args.client now_shut rows (finds_none c.args.client rows nowhere))
