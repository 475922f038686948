use Rattle.core_state.proofs.Common.{Client, ap, sym, ◌∙◌, ◌≡◌}
use Rattle.core_state.proofs.joined.Rows.{stands_at}
use Rattle.core_state.proofs.clients.place_of.Goals as goal

-- the row at the guess is the client's
pub returns-then-row-client : goal.returns-then-row-client
returns-then-row-client c =
    let row = c.in-Some.row.now in
    let item = c.in-Some.ensures.lookup in
    let its : row.id ≡ c.args.client = sym (ap (λ (r : Client). r.id) c.row.view_is) ∙ c.if-row-client.true in
    stands_at c.args.client c.args.clients.now _ row c.requires item.3.0 (ap (λ (r : Client). r.id) (sym item.1) ∙ its)
