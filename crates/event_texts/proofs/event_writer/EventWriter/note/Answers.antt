use Rattle.event_texts.proofs.event_writer.EventWriter.note.Goals as goal

-- the session takes note, and then the labels
pub returns-clause-notes : goal.returns-clause-notes
returns-clause-notes c = record {
  pool = c.in_ok-note.ensures.pool;
  limits = c.in_ok-note.ensures.limits;
  shows = c.in_ok-note.ensures.shows;
  text = c.in_ok-note.ensures.text;
  keeps = c.in_ok-note.ensures.names;
  calls = c.in_ok-note-2.ensures;
}
