-- The text of a summary: in which events nodes failed, who keeps the pages that are held, and which trackers wait.
use Rattle.std.specs.Prelude.{ℕ, ◌+◌, ◌-◌, ◌==◌, Bool, true, ◌&&◌, not, if◌then◌else◌}
use Rattle.std.specs.Prelude.{List, [], ◌∷◌, ◌++◌, codes, decimal, length, map, is_some}
use Rattle.std.specs.List.{filter, flat_map, list_any, range_with_len}
use Rattle.sm_names.specs.declared.tracking.Fired.{Fired}
use Rattle.core_state.specs.Reads.{views_of}
use Rattle.core_state.specs.State.{State}
use Rattle.script_lines.specs.Labels.{label_text}
use Rattle.script_labels.specs.Names.{Names, label_of_tracker}
use Rattle.event_texts.specs.EventTexts.{kept_text}
use Rattle.event_texts.specs.FactTexts.{concat}
use Rattle.event_texts.specs.KeeperTexts.{who_keeps_with}
use Rattle.event_texts.specs.LossTexts.{counted}

-- a colon, if there is something to list
abbrev pub colon : ℕ → List ℕ
colon count = if count == 0 then [] else codes ":"

-- a number behind a space
abbrev pub number_text : ℕ → List ℕ
number_text number = codes " " ++ decimal number

-- in how many events nodes failed, and their numbers
unfoldable pub failing_text : List ℕ → List ℕ
failing_text failing = concat (
    codes "failed  "
    ∷ counted (length failing) (codes "event")
    ∷ colon (length failing)
    ∷ flat_map number_text failing
    ∷ codes "\n"
    ∷ []
    )

-- how many of the pages are held
unfoldable pub pages_text : State → List ℕ
pages_text s = concat
    (codes "held    " ∷ decimal (s.pool - (views_of s).free) ∷ codes " of " ∷ counted s.pool (codes "page") ∷ codes "\n" ∷ [])

-- the tracker with this number was made, and has not fired
abbrev pub is_waiting : Names → List Fired → ℕ → Bool
is_waiting names fired id = is_some (label_of_tracker names id) && not (list_any (λ (f : Fired). f.tracker == id) fired)

-- the trackers that wait, of those that these first events made: the number of a tracker is that of its event
abbrev pub waiting_of : Names → List Fired → ℕ → List ℕ
waiting_of names fired events = filter (is_waiting names fired) (map (λ before. before + 1) (range_with_len 0 events))

-- the label of the tracker behind a space
abbrev pub waiting_label : Names → ℕ → List ℕ
waiting_label names id = codes " " ++ label_text (label_of_tracker names id)

-- how many trackers wait, and which
unfoldable pub waiting_text : Names → List ℕ → List ℕ
waiting_text names waiting = concat (
    codes "waiting "
    ∷ counted (length waiting) (codes "tracker")
    ∷ colon (length waiting)
    ∷ flat_map (waiting_label names) waiting
    ∷ codes "\n"
    ∷ []
    )

-- how many events there were
unfoldable pub events_text : ℕ → List ℕ
events_text events = concat (codes "summary of " ∷ counted events (codes "event") ∷ codes "\n" ∷ [])

-- the summary of what is known of this core, where nodes failed in the events of these numbers
unfoldable pub summary_text : Names → State → List ℕ → List ℕ
summary_text names s failing = concat (
    events_text s.events
    ∷ failing_text failing
    ∷ pages_text s
    ∷ kept_text names (who_keeps_with names true s) (views_of s).held
    ∷ waiting_text names (waiting_of names s.trackers.fired s.events)
    ∷ []
    )
