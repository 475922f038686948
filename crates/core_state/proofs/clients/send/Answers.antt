use Rattle.core_state.proofs.Common.{Client, ap, on_ok_weaker, set, sym, ◌∙◌}
use Rattle.core_state.specs.ClientRows.{with_parcel}
use Rattle.core_state.proofs.joined.Rows.{one_changed, none_changed, finds_none}
use Rattle.core_state.proofs.clients.send.Goals as goal

-- the row of the client
pub returns-clause-ok : goal.returns-clause-ok
returns-clause-ok c =
    let rows = c.args.clients.now.items in
    let place = sym (rw c.deref.ensures.value at c.place_of.ensures) ∙ c.in-Some.is in
    on_ok_weaker c.push.result (λ new.
    ap (λ (r : Client). set rows c.in-Some.at r) new
    ∙ one_changed c.args.to (with_parcel c.args.parcel) rows c.in-Some.at c.index_mut.result.now c.requires place
    c.index_mut.ensures.value) c.push.ensures.ok

pub returns-in_default-clause-ok : goal.returns-in_default-clause-ok
returns-in_default-clause-ok c =
    let rows = c.args.clients.now.items in
    let nowhere = sym (rw c.deref.ensures.value at c.place_of.ensures) ∙ c.in_default.is in
    sym (none_changed c.args.to (with_parcel c.args.parcel) rows (finds_none c.args.to rows nowhere))
