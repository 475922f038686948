use Rattle.std.proofs.lemmas.Result.{on_ok_weaker}
use Rattle.event_texts.proofs.allocations.push_given.Goals as goal

-- the head has the label of its birth
pub returns : goal.returns
returns c = on_ok_weaker c.push_parts.result
    (λ put names keeps. rw (c.birth_label.ensures names keeps) at put)
    c.push_parts.ensures
