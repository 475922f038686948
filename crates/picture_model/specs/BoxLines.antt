-- The lines of a node's box.
use Rattle.std.specs.Prelude.{ℕ, ◌==◌, ◌&&◌, if◌then◌else◌, List, [], ◌∷◌, codes, decimal, length, Option, Some, None}
use Rattle.sm_names.specs.declared.outcomes.Fault.{Fault}
use Rattle.sm_names.specs.declared.tracking.Fired.{Fired}
use Rattle.sm_names.specs.Demands.{Demand}
use Rattle.forest_store.specs.declared.node.Node.{Node}
use Rattle.script_lines.specs.Labels.{label_text}
use Rattle.script_labels.specs.Names.{Names, label_of_node, label_of_tracker}
use Rattle.script_labels.specs.Texts.{cause_text}
use Rattle.event_texts.specs.Called.{last_label, other_text}
use Rattle.event_texts.specs.FactTexts.{concat}
use Rattle.picture_model.specs.declared.features.Class.{Class}
use Rattle.picture_model.specs.Features.{class_of, kind_text, sign_text}

-- the number of the event and its line, or that there was no event
abbrev pub header_text : ℕ → List ℕ → List ℕ
header_text event line =
    if event == 0 then codes "no event" else concat (codes "event " ∷ decimal event ∷ codes ": " ∷ line ∷ [])

-- the label of the node, behind the sign of what it is drawn as
abbrev pub gap_behind_sign : Class → List ℕ
gap_behind_sign Class.Live = []
gap_behind_sign Class.Orphan = codes " "
gap_behind_sign Class.Origin = codes " "
gap_behind_sign Class.Taken = codes " "
gap_behind_sign Class.Ended = codes " "

-- the sign and the name of a node
abbrev pub node_words : Names → Node → List ℕ
node_words names n =
    concat (sign_text (class_of n) ∷ gap_behind_sign (class_of n) ∷ label_text (label_of_node names n.key) ∷ [])

-- that the tracker fired, and at which event
abbrev pub fired_words : Names → Fired → List ℕ
fired_words names firing = concat (
    codes "tracker "
    ∷ label_text (label_of_tracker names firing.tracker)
    ∷ codes " fired at event "
    ∷ decimal firing.event
    ∷ []
    )

-- that the node was released before it left
abbrev pub released_words : Node → List ℕ
released_words n = if n.released && n.gone then codes "released; " else []

-- why the node failed, and with whom
abbrev pub fallen_words : Names → Fault → List ℕ
fallen_words names fault =
    concat (cause_text fault.cause ∷ codes ", origin " ∷ label_text (label_of_node names fault.origin) ∷ [])

-- the state of a node of this class that failed so, if it failed
abbrev pub words_of_class : Names → Class → Option Fault → List ℕ
words_of_class names Class.Live fault = codes "live"
words_of_class names Class.Orphan fault = codes "released"
words_of_class names Class.Ended fault = codes "ended"
words_of_class names Class.Origin None = codes "ended"
words_of_class names Class.Origin (Some fault) = cause_text fault.cause
words_of_class names Class.Taken None = codes "ended"
words_of_class names Class.Taken (Some fault) = fallen_words names fault

-- the state of the node
abbrev pub state_words : Names → Node → List ℕ
state_words names n = concat (released_words n ∷ words_of_class names (class_of n) n.fault ∷ [])

-- that the node is dispensable
abbrev pub dispensable_words : Node → List ℕ
dispensable_words n = if n.dispensable then codes ", dispensable" else []

-- that the node is weak
abbrev pub weak_words : Node → List ℕ
weak_words n = if n.weak then codes ", weak" else []

-- another name, in parentheses, if there is one
abbrev pub also_text : List ℕ → List ℕ
also_text name = if length name == 0 then [] else concat (codes " (" ∷ name ∷ codes ")" ∷ [])

-- what the node is, and what it was collected as
abbrev pub kind_words : Names → Node → List ℕ
kind_words names n = concat (
    kind_text n
    ∷ dispensable_words n
    ∷ weak_words n
    ∷ also_text (other_text (last_label names n.key) (label_of_node names n.key))
    ∷ []
    )

-- how many buffers there are to be at least, if some are
abbrev pub least_words : ℕ → List ℕ
least_words at_least = if at_least == 0 then [] else concat (codes ", at least " ∷ decimal at_least ∷ [])

-- the word behind a number of bytes
abbrev pub bytes_word : ℕ → List ℕ
bytes_word size = if size == 1 then codes " byte" else codes " bytes"

-- how many buffers are camped on
unfoldable pub camps_words : ℕ → List ℕ
camps_words camping = concat (codes "camps on " ∷ decimal camping ∷ [])

-- how many bytes a buffer is to have
unfoldable pub size_words : ℕ → List ℕ
size_words size = concat (codes ", " ∷ decimal size ∷ bytes_word size ∷ [])

-- what is asked for
abbrev pub asked_words : Demand → List ℕ
asked_words asked = concat (camps_words asked.camping ∷ least_words asked.at_least ∷ size_words asked.size ∷ [])
