-- In how many events nodes failed.
use Rattle.std.specs.Prelude.{ℕ, ◌+◌, ◌==◌, Bool, true, false, if◌then◌else◌, List, [], ◌∷◌, ◌++◌, length, min}
use Rattle.std.specs.List.{list_any}
use Rattle.sm_names.specs.Marks.{Entry, Mark, Timeline, Called, Loss, Allocated, Ended}
use Rattle.sm_names.specs.Timelines.{timeline}
use Rattle.forced_marks.specs.declared.decision.Forced.{Forced}
use Rattle.forced_marks.specs.declared.moment.Moment.{Moment}

-- before this mark, whether a node failed in the event that it belongs to, where marks behind it say whether one did
abbrev pub failed_before : Bool → Mark → Bool
failed_before failed (Called client reply call) = false
failed_before failed (Loss key cause) = true
failed_before failed (Allocated head) = failed
failed_before failed (Ended top) = failed

-- with this mark, where there are so many before it: an event in which a node failed counts where its call stands
abbrev pub failures_at : ℕ → Bool → Mark → ℕ
failures_at before failed (Called client reply call) = before + (if failed then 1 else 0)
failures_at before failed _ = before

-- in how many events of these marks a node failed, where the newest is known to be one of them, or not
abbrev pub failures_from : Bool → Timeline → ℕ
failures_from failed [] = 0
failures_from failed (mark ∷ before) = failures_at (failures_from (failed_before failed mark) before) failed mark

-- in how many events nodes failed
abbrev pub failures : Timeline → ℕ
failures marks = failures_from false marks

-- the mark is that of a failure
abbrev pub is_failure : Forced → Bool
is_failure (Forced.Loss fault) = true
is_failure (Forced.Allocated head) = false
is_failure (Forced.Ended top) = false

-- one of these marks is
abbrev pub has_failure : List Moment → Bool
has_failure moments = list_any (λ (m : Moment). is_failure m.mark) moments

-- one more event, with these marks, where so many were made with it
abbrev pub failures_with : ℕ → ℕ → List Moment → ℕ
failures_with failures events moments = if has_failure moments then min (failures + 1) events else failures

-- the number of the event behind these, if nodes failed in more events with it than before it
abbrev pub failing_with : ℕ → List Entry → Entry → List ℕ
failing_with pool before e =
    let next = length before + 1 in
    if failures (timeline pool (before ++ e ∷ [])) == failures (timeline pool before) then [] else next ∷ []

-- the numbers of these later events, behind those before, in which nodes failed
abbrev pub failing_behind : ℕ → List Entry → List Entry → List ℕ
failing_behind pool before [] = []
failing_behind pool before (e ∷ later) = failing_with pool before e ++ failing_behind pool (before ++ e ∷ []) later

-- the numbers of the events in which nodes failed
abbrev pub failing_events : ℕ → List Entry → List ℕ
failing_events pool history = failing_behind pool [] history
