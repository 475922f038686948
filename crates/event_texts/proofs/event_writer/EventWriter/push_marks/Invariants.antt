use Rattle.event_texts.proofs.Common.{Keeps, Names, length, marks_text, views_of, ◌++◌, ◌≡◌}
use Rattle.event_texts.proofs.event_writer.EventWriter.push_marks.Given as goal

-- the text so far, with that of the marks that are left, is that of all
abbrev pub invariant-marks : goal.invariant-marks
invariant-marks l = (names : Names) → Keeps l.self.session.tables names →
    l.facts.items ++ marks_text names (views_of l.self.session.core).free l.event.after l.rest
    ≡ l.initial.facts.items ++ marks_text names (views_of l.self.session.core).free l.event.after l.initial.rest

abbrev pub decreases-marks : goal.decreases-marks
decreases-marks l = length l.rest
