use Rattle.event_texts.proofs.Common.{on_ok_weaker, who_has_with}
use Rattle.event_texts.proofs.Keeping.{first-kept}
use Rattle.event_texts.proofs.keepers.push_from.Goals as goal

-- the first buffer, and those behind it
pub returns : goal.returns
returns c = on_ok_weaker c.push_later.result
    (λ put names keeps calls.
    first-kept names (who_has_with names c.args.register.now.with_nodes c.args.register.now.core.now
    c.args.register.now.clients.now.items) c.args.first.now c.args.later.now
    c.in_ok-row.row.items _ _ _ _ (c.in_ok-row.ensures names keeps calls) c.in_ok-push.ensures.ok (c.in_ok-push_buffer.ensures names keeps)
    (put names keeps calls))
    c.push_later.ensures
