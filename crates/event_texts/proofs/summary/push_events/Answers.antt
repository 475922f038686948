use Rattle.event_texts.specs.SummaryTexts.{events_text}
use Rattle.event_texts.proofs.summary.push_events.Goals as goal

-- the three parts
pub returns : goal.returns
unfolding events_text
returns c = c.push_parts.ensures
