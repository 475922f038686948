use Rattle.event_texts.proofs.Common.{LossLines, RecallsLosses, length, ◌≡◌}
use Rattle.event_texts.proofs.Losing.{NotesOn}
use Rattle.event_texts.proofs.event_writer.EventWriter.note_losses.Given as goal

-- the marks so far were noted
abbrev pub invariant-marks : goal.invariant-marks
invariant-marks l = record {
  session : l.self.session ≡ l.initial.self.session;
  labels : l.self.labels ≡ l.initial.self.labels;
  failures : l.self.failures ≡ l.initial.self.failures;
  deeds : l.self.deeds ≡ l.initial.self.deeds;
  limits : l.self.limits ≡ l.initial.self.limits;
  notes : (lines : LossLines) → RecallsLosses l.initial.self lines →
      NotesOn (l.number, l.line) l.rest l.initial.rest l.initial.self l.self lines;
}

abbrev pub decreases-marks : goal.decreases-marks
decreases-marks l = length l.rest
