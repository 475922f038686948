use Rattle.event_texts.specs.SummaryTexts.{summary_text}
use Rattle.event_texts.proofs.Pieces.{five}
use Rattle.event_texts.proofs.event_writer.EventWriter.push_summary.Goals as goal

-- the five facts
pub returns-clause-text : goal.returns-clause-text
unfolding summary_text
returns-clause-text c = λ names keeps calls.
    five _ _ _ _ _ _ _ _ _ _ _ (rw c.events.ensures.value at c.in_ok-push_events.ensures) c.in_ok-push_failing.ensures
    c.in_ok-push_pages.ensures (c.in_ok-push_all_kept.ensures.text names keeps calls) (c.in_ok-push_waiting.ensures names keeps)
