-- The lines of the calls by which clients leave.
use Rattle.std.specs.Prelude.{ℕ, ◌==◌, Bool, true, false, List, [], ◌∷◌, ◌++◌, count_by, slice_get, take, Option, Some, None}
use Rattle.std.specs.List.{position}
use Rattle.std.specs.Option.{option_and_then, option_map, option_map_or}
use Rattle.sm_names.specs.declared.call_parts.Argument.{Argument}
use Rattle.sm_names.specs.declared.call_parts.Object.{Object}
use Rattle.sm_names.specs.declared.call_rows.CallKind.{CallKind}
use Rattle.sm_names.specs.declared.keys.NodeKey.{NodeKey}
use Rattle.sm_names.specs.declared.keys.Strength.{Strength}
use Rattle.sm_names.specs.declared.messages.Call.{Call}
use Rattle.sm_names.specs.declared.messages.Reply.{Reply}
use Rattle.sm_names.specs.Marks.{Entry}
use Rattle.sm_names.specs.Sameness.{same_key}
use Rattle.script_lines.specs.declared.buffer_label.BufferLabel.{BufferLabel}
use Rattle.script_lines.specs.declared.label.Label.{Label}
use Rattle.script_lines.specs.declared.line.Line.{Line}
use Rattle.script_lines.specs.declared.line.Request.{Request}
use Rattle.script_lines.specs.LineTexts.{line_text}
use Rattle.explore_model.specs.declared.found.Found.{Found}
use Rattle.outcome_texts.specs.Calls.{entry_call}
use Rattle.outcome_texts.specs.Plays.{bound_at}
use Rattle.outcome_texts.specs.declared.calls.PlayCall.{PlayCall}
use Rattle.outcome_texts.specs.declared.telling.Telling.{Telling}

-- the reply brings the node of this key, which is new
abbrev pub brings_node : NodeKey → Reply → Bool
brings_node key (Reply.Token other collection) = same_key other key
brings_node key _ = false

-- it brings a new node of this collection
abbrev pub brings_into : ℕ → Reply → Bool
brings_into collection (Reply.Token key other) = other == collection
brings_into collection _ = false

-- what the call makes is called so: a client that leaves makes nothing
abbrev pub bound_told : Telling → PlayCall → Option Label
bound_told telling (PlayCall.Step actor at) = bound_at telling actor at
bound_told telling (PlayCall.Leave actor number) = None

-- the same of the call of this number, joins among them
abbrev pub bound_in : Telling → Found → ℕ → Option Label
bound_in telling found number = option_and_then (bound_told telling) (entry_call found number)

-- the same, if there is such a number
abbrev pub label_told : Telling → Found → Option ℕ → Option Label
label_told telling found number = option_and_then (bound_in telling found) number

-- what the node is called: as its maker calls it
abbrev pub node_label : Telling → Found → NodeKey → Option Label
node_label telling found key = label_told telling found (position (λ (e : Entry). brings_node key e.2) found.entries.items)

-- what the root of the collection is called, its first node
abbrev pub root_label : Telling → Found → ℕ → Option Label
root_label telling found collection =
    label_told telling found (position (λ (e : Entry). brings_into collection e.2) found.entries.items)

-- a Shut
abbrev pub shut_request : Request Label BufferLabel
shut_request = record { kind = CallKind.Shut; object = Object.Nothing; argument = Argument.Nothing; binds = None }

-- a Collect that binds the label
abbrev pub collect_request : Label → Request Label BufferLabel
collect_request label = record { kind = CallKind.Collect; object = Object.Nothing; argument = Argument.Nothing; binds = Some label }

-- a Close of the node of this label
abbrev pub close_request : Label → Request Label BufferLabel
close_request label = record { kind = CallKind.Close; object = Object.Node label; argument = Argument.Nothing; binds = None }

-- a DropHandle, of a buffer of the collection of the node of this label
abbrev pub drop_request : ℕ → Strength → Label → Request Label BufferLabel
drop_request index strength label = record {
  kind = CallKind.DropHandle;
  object = Object.Buffer (record { node = label; index = index });
  argument = Argument.Strength strength;
  binds = None;
}

-- the request of a call by which a client leaves, before which so many calls collect. What it collects gets the label of that
-- number among those that no client uses
abbrev pub leaving_request : Telling → Found → Call → ℕ → Option (Request Label BufferLabel)
leaving_request telling found Call.Shut collects = Some shut_request
leaving_request telling found Call.Collect collects = option_map collect_request (slice_get telling.names.now.fresh.items collects)
leaving_request telling found (Call.Close key) collects = option_map close_request (node_label telling found key)
leaving_request telling found (Call.DropHandle buffer strength) collects =
    option_map (drop_request buffer.index strength) (root_label telling found buffer.collection)
leaving_request telling found _ collects = None

-- what the client asks, if it is there
abbrev pub asked_text : Label → Option (Request Label BufferLabel) → List ℕ
asked_text client request = option_map_or (λ (r : Request Label BufferLabel). line_text (Line.Ask client r)) request []

-- the same of the actor of this place
abbrev pub actor_text : List Label → ℕ → Option (Request Label BufferLabel) → List ℕ
actor_text labels actor request = option_map_or (λ (client : Label). asked_text client request) (slice_get labels actor) []

-- the call collects
abbrev pub is_collecting : Call → Bool
is_collecting Call.Collect = true
is_collecting _ = false

-- so does that of the entry
abbrev pub is_collect : Entry → Bool
is_collect e = is_collecting e.1

-- the call of this number, and how many before it collect
abbrev pub entry_leaving : List Entry → ℕ → Option (Call × ℕ)
entry_leaving entries number =
    option_map (λ (e : Entry). (e.1, count_by (λ (one : Entry). is_collect one) (take number entries))) (slice_get entries number)

-- the request of the call of this number, joins among them
abbrev pub entry_request : Telling → Found → ℕ → Option (Request Label BufferLabel)
entry_request telling found number = option_and_then
    (λ (one : Call × ℕ). leaving_request telling found one.0 one.1)
    (entry_leaving found.entries.items number)

-- the line of the call of this number by which the actor leaves, with its end
abbrev pub leave_text : Telling → Found → ℕ → ℕ → List ℕ
leave_text telling found actor number = actor_text telling.labels.now actor (entry_request telling found number) ++ 10 ∷ []
