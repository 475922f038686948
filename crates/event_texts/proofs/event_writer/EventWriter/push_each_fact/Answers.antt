use Rattle.event_texts.proofs.Common.{Fired, List, ap, facts_text, ◌++◌, ◌∙◌}
use Rattle.event_texts.specs.EventTexts.{fires_text}
use Rattle.event_texts.proofs.Pieces.{five}
use Rattle.event_texts.proofs.event_writer.EventWriter.push_each_fact.Goals as goal

-- the five kinds of facts
pub returns-clause-text : goal.returns-clause-text
unfolding facts_text
returns-clause-text c = λ names lines keeps calls recalls.
    five _ _ _ _ _ _ _ _ _ _ _ (c.in_ok-push_marks.ensures names keeps) (c.in_ok-push_reasons.ensures.text names lines keeps calls recalls)
    (c.in_ok-push_buffers.ensures names keeps) (c.in_ok-push_keepers.ensures.text names keeps calls)
    (c.in_ok-push_fires.ensures names keeps
    ∙ ap (λ (fired : List Fired). c.push_keepers.new.facts.items ++ fires_text names fired) c.fired_since-fired.ensures)
