use Rattle.event_texts.specs.RefusalTexts.{token_text}
use Rattle.event_texts.proofs.event_writer.reasons.push_token.Goals as goal

-- the node between these words
pub returns : goal.returns
unfolding token_text
returns c = c.push_named.ensures
