use Rattle.event_texts.specs.RefusalTexts.{no_end_text}
use Rattle.event_texts.proofs.event_writer.reasons.push_no_end.Goals as goal

-- the node between these words
pub returns : goal.returns
unfolding no_end_text
returns c = c.push_named.ensures
