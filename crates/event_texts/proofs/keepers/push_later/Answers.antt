use Rattle.event_texts.proofs.Common.{HeldBuffer, List, ap, between_buffers, buffer_text, kept_behind, nil_from_length, on_ok_weaker, sym}
use Rattle.event_texts.proofs.Common.{who_has_with, ℕ, ◌++◌, ◌∙◌}
use Rattle.event_texts.specs.EventTexts.{by_text}
use Rattle.event_texts.proofs.Keeping.{next-kept}
use Rattle.event_texts.proofs.keepers.push_later.Goals as goal

-- one more buffer
pub buffers-preserved : goal.buffers-preserved
buffers-preserved c = λ names keeps calls.
    let register = c.args.register.now in
    next-kept names (who_has_with names register.with_nodes register.core.now register.clients.now.items)
    c.buffers.row.items c.in_ok-next.next.items
    c.in-Some.held.now c.in-Some.more.now c.buffers.rest.now c.buffers.text.items c.push_next_kept.new.text.items
    (c.in_ok-next.ensures names keeps calls) c.in-Some.ensures.cases.0
    (c.in_ok-push_next_kept.ensures names keeps
    ∙ ap (λ (row : List ℕ). c.buffers.text.items
    ++ (between_buffers row c.deref-in-Some.result.now ++ buffer_text names c.in-Some.held.now.buffer)) c.deref.ensures.value
    ∙ ap (λ (next : List ℕ). c.buffers.text.items
    ++ (between_buffers c.buffers.row.items next ++ buffer_text names c.in-Some.held.now.buffer)) c.deref-in-Some.ensures.value)
    ∙ c.buffers.invariant names keeps calls

-- no buffer is left
pub returns : goal.returns
returns c = on_ok_weaker c.push_by.result
    (λ put names keeps calls.
    let register = c.args.register.now in
    let who = who_has_with names register.with_nodes register.core.now register.clients.now.items in
    put
    ∙ ap (λ (row : List ℕ). c.buffers.text.items ++ by_text row) c.deref-2.ensures.value
    ∙ ap (λ (rest : List HeldBuffer). c.buffers.text.items ++ kept_behind names who c.buffers.row.items rest)
    (sym (nil_from_length c.buffers.rest.now c.in_default.ensures.cases))
    ∙ c.buffers.invariant names keeps calls)
    c.push_by.ensures
