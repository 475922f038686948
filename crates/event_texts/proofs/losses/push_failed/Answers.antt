use Rattle.event_texts.proofs.Common.{ap, on_ok_weaker, ℕ, ◌++◌, ◌∙◌}
use Rattle.event_texts.specs.LossTexts.{asked_camping, asked_least, failure_text}
use Rattle.event_texts.proofs.losses.push_failed.Goals as goal

-- the total demand is what the unit asks for
pub returns : goal.returns
returns c =
    let asks = c.total_demand-asks.result in
    let nodes = c.args.scene.now.nodes.items in
    let given = c.args.scene.now.buffers in
    let old = c.args.text.now.items in
    on_ok_weaker c.push_failure.result
    (λ put. put
    ∙ ap (λ (n : ℕ). old ++ failure_text nodes given c.args.free n asks.at_least asks.size c.args.failure)
    (rw c.deref.ensures.value at c.total_demand-asks.ensures.camping)
    ∙ ap (λ (n : ℕ). old ++ failure_text nodes given c.args.free (asked_camping nodes c.args.head) n asks.size c.args.failure)
    (rw c.deref.ensures.value at c.total_demand-asks.ensures.at_least)
    ∙ ap (λ (n : ℕ). old ++ failure_text nodes given c.args.free (asked_camping nodes c.args.head) (asked_least nodes c.args.head) n
    c.args.failure) (rw c.deref.ensures.value at c.total_demand-asks.ensures.size))
    c.push_failure.ensures
