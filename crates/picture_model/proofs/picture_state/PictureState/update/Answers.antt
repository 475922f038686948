use Rattle.picture_model.proofs.Common.{List, Moment, Node, ap, known_in, marked_in, refreshed, with_told, ◌∙◌, ◌≡◌}
use Rattle.picture_model.proofs.Showing.{knows-after}
use Rattle.picture_model.proofs.picture_state.PictureState.update.Goals as goal

-- the nodes of the collection that the call named are brought up to date, if the event has a mark, and a new one is added
pub returns-clause-known : goal.returns-clause-known
returns-clause-known c = λ id.
    let marked : c.marked_in-marked.result ≡ marked_in c.args.named c.args.event.now.moments.items =
    c.marked_in-marked.ensures ∙ ap (λ (ms : List Moment). marked_in c.args.named ms) c.deref.ensures.value in
    c.in_ok-add_told.ensures id
    ∙ ap (λ (nodes : List Node). with_told c.args.core.now c.args.event.now.reply id nodes)
    (c.in_ok-refresh_named.ensures id
    ∙ (λ i. refreshed c.args.core.now (marked i) (c.deref-2.ensures.value i) id (known_in c.args.self.now id)))

-- each kept node is known
pub returns-clause-kept : goal.returns-clause-kept
returns-clause-kept c = λ old client call history shows is pool shows_s knows.
    let marked : c.marked_in-marked.result ≡ marked_in c.args.named c.args.event.now.moments.items =
    c.marked_in-marked.ensures ∙ ap (λ (ms : List Moment). marked_in c.args.named ms) c.deref.ensures.value in
    knows-after old c.args.core.now history client call c.args.event.now shows is pool shows_s c.args.self.now c.add_told.new.self
    c.args.named knows
    (λ id.
    c.in_ok-add_told.ensures id
    ∙ ap (λ (nodes : List Node). with_told c.args.core.now c.args.event.now.reply id nodes)
    (c.in_ok-refresh_named.ensures id
    ∙ (λ i. refreshed c.args.core.now (marked i) (c.deref-2.ensures.value i) id (known_in c.args.self.now id))))
