use Rattle.event_texts.proofs.Common.{Bound, Refusal, [], ap, codes, sym, ℕ, ◌++◌, ◌∙◌}
use Rattle.event_texts.specs.RefusalTexts.{limit_text, refusal_text}
use Rattle.event_texts.proofs.event_writer.EventWriter.push_refusal.Goals as goal

-- the limits are those of the core
pub returns-in_ok-push_limit-in-TooManyNodes-clause-text : goal.returns-in_ok-push_limit-in-TooManyNodes-clause-text
returns-in_ok-push_limit-in-TooManyNodes-clause-text c = λ names lines keeps calls recalls.
    c.in_ok-push_limit-in-TooManyNodes.ensures
    ∙ (ap (λ (n : ℕ). c.args.facts.now.items ++ limit_text n (codes "kept node") [])
    (c.nodes.ensures.value ∙ ap (λ (b : Bound). b.nodes) recalls.limits)
    ∙ ap (λ (r : Refusal). c.args.facts.now.items
    ++ refusal_text names lines.deeds c.args.self.now.session.core c.args.call r) (sym c.in-TooManyNodes.is))

pub returns-in_ok-push_limit-in-TooManyCollections-clause-text : goal.returns-in_ok-push_limit-in-TooManyCollections-clause-text
returns-in_ok-push_limit-in-TooManyCollections-clause-text c = λ names lines keeps calls recalls.
    c.in_ok-push_limit-in-TooManyCollections.ensures
    ∙ (ap (λ (n : ℕ). c.args.facts.now.items ++ limit_text n (codes "kept collection") [])
    (c.collections.ensures.value ∙ ap (λ (b : Bound). b.collections) recalls.limits)
    ∙ ap (λ (r : Refusal). c.args.facts.now.items
    ++ refusal_text names lines.deeds c.args.self.now.session.core c.args.call r) (sym c.in-TooManyCollections.is))

pub returns-in_ok-push_limit-in-TrackersFull-clause-text : goal.returns-in_ok-push_limit-in-TrackersFull-clause-text
returns-in_ok-push_limit-in-TrackersFull-clause-text c = λ names lines keeps calls recalls.
    c.in_ok-push_limit-in-TrackersFull.ensures
    ∙ (ap (λ (n : ℕ). c.args.facts.now.items ++ limit_text n (codes "waiting tracker") [])
    (c.trackers.ensures.value ∙ ap (λ (b : Bound). b.trackers) recalls.limits)
    ∙ ap (λ (r : Refusal). c.args.facts.now.items
    ++ refusal_text names lines.deeds c.args.self.now.session.core c.args.call r) (sym c.in-TrackersFull.is))

pub returns-in_ok-push_limit-in-TooManyHandles-clause-text : goal.returns-in_ok-push_limit-in-TooManyHandles-clause-text
returns-in_ok-push_limit-in-TooManyHandles-clause-text c = λ names lines keeps calls recalls.
    c.in_ok-push_limit-in-TooManyHandles.ensures
    ∙ (ap (λ (n : ℕ). c.args.facts.now.items ++ limit_text n (codes "open handle") (codes " of one buffer and strength"))
    (c.handles.ensures.value ∙ ap (λ (b : Bound). b.handles) recalls.limits)
    ∙ ap (λ (r : Refusal). c.args.facts.now.items
    ++ refusal_text names lines.deeds c.args.self.now.session.core c.args.call r) (sym c.in-TooManyHandles.is))
