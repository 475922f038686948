use Rattle.std.proofs.lemmas.Result.{on_ok_weaker}
use Rattle.event_texts.proofs.losses.push_small.Goals as goal

-- the size is that of the buffers
pub returns : goal.returns
returns c = on_ok_weaker c.push_parts.result (λ put. rw c.size_of.ensures at put) c.push_parts.ensures
