use Rattle.script_explain.proofs.seen.Seen.answer.Goals as goal

-- the number that is kept changes nothing of the event writer
pub returns-in-Ok-note-clause-tells : goal.returns-in-Ok-note-clause-tells
returns-in-Ok-note-clause-tells c = λ scene kept knows recalls.
    rw c.note.ensures.event_writer (c.in-Ok.ensures.tells scene kept knows recalls)
