use Rattle.event_laws.proofs.Common.{SameHands, entry_mark, subst, sym, timeline, timeline-push, ◌∷◌}
use Rattle.event_laws.proofs.HandLaws.{same_handle_moves, same_after}
use Rattle.event_laws.proofs.handles.forced_marks_move_nothing.Goals as goal

pub returns-clause-mark : goal.returns-clause-mark
returns-clause-mark c = same_handle_moves

pub returns-clause-event : goal.returns-clause-event
returns-clause-event c pool history entry =
    subst (SameHands (entry_mark entry ∷ timeline pool history)) (sym (timeline-push pool history entry))
    (same_after pool (timeline pool history) entry)
