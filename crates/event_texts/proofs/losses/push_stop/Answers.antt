use Rattle.std.proofs.lemmas.Result.{on_ok_weaker}
use Rattle.event_texts.proofs.losses.push_stop.Goals as goal

-- both nodes have the labels of their births
pub returns-in-AtAttached : goal.returns-in-AtAttached
returns-in-AtAttached c = rw c.in-AtAttached.is (on_ok_weaker c.push_parts.result
    (λ put names keeps. rw (c.birth_label.ensures names keeps) at (rw (c.birth_label-in-AtAttached.ensures names keeps) at put))
    c.push_parts.ensures)

pub returns-in-AtDispensable : goal.returns-in-AtDispensable
returns-in-AtDispensable c = rw c.in-AtDispensable.is (on_ok_weaker c.push_parts-in-AtDispensable.result
    (λ put names keeps. rw (c.birth_label-in-AtDispensable.ensures names keeps) at
    (rw (c.birth_label-in-AtDispensable-2.ensures names keeps) at put))
    c.push_parts-in-AtDispensable.ensures)
