-- A mark of an event that a walk finds, and the collection before it.
use Rattle.forest_store.specs.Snapshots.{collection_of}
use Rattle.forced_marks.specs.declared.moment.Moment.{Moment}
use Rattle.forced_marks.specs.Marks.{Stage}
use Rattle.forced_marks.specs.Steps.{mark_told}

-- the mark, and the collection before it
abbrev pub stage_of : Moment → Stage
stage_of m = record { mark = mark_told m.mark; before = collection_of m.before }
