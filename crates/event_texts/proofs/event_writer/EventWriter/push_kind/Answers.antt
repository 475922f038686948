use Rattle.std.proofs.lemmas.Result.{on_ok_weaker}
use Rattle.event_texts.proofs.event_writer.EventWriter.push_kind.Goals as goal

-- the end is bound, so the text is that of a collection
pub returns-then-node : goal.returns-then-node
returns-then-node c = on_ok_weaker
    c.push_named_deed.result
    (λ put names lines keeps recalls. rw c.if-node.true (put names lines keeps recalls))
    c.push_named_deed.ensures
