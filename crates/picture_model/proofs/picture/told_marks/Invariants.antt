use Rattle.picture_model.proofs.Common.{length, map, told_in, views_of, words_of, ◌++◌, ◌≡◌}
use Rattle.script_labels.specs.Names.{Names}
use Rattle.script_labels.specs.Tables.{Keeps}
use Rattle.picture_model.proofs.picture.told_marks.Given as goal

-- the marks so far, with those that are left, are all
abbrev pub invariant-marks : goal.invariant-marks
invariant-marks l = (names : Names) → Keeps l.event_writer.session.tables names →
    map words_of l.told.items ++ told_in names (views_of l.event_writer.session.core).free l.event.after l.rest
    ≡ told_in names (views_of l.event_writer.session.core).free l.event.after l.initial.rest

abbrev pub decreases-marks : goal.decreases-marks
decreases-marks l = length l.rest
