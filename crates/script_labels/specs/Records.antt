-- A record as a transcript: for each entry the line that makes its call, and below it the reply.
use Rattle.std.specs.Prelude.{ℕ, ◌+◌, ◌≡◌, ◌==◌, ◌||◌, if◌then◌else◌, List, [], ◌∷◌, ◌++◌, codes, Option, Some, None}
use Rattle.std.specs.Fmt.{decimal}
use Rattle.std.specs.Map.{lookup}
use Rattle.std.specs.Option.{option_map_or}
use Rattle.sm_names.specs.declared.call_parts.Argument.{Argument}
use Rattle.sm_names.specs.declared.call_parts.CallParts.{CallParts}
use Rattle.sm_names.specs.declared.call_parts.Object.{Object}
use Rattle.sm_names.specs.declared.call_parts.Product.{Product}
use Rattle.sm_names.specs.declared.keys.BufferName.{BufferName}
use Rattle.sm_names.specs.declared.keys.NodeKey.{NodeKey}
use Rattle.sm_names.specs.declared.messages.Call.{Call}
use Rattle.sm_names.specs.declared.messages.Reply.{Reply}
use Rattle.sm_names.specs.CallRows.{brings_end, is_tracker, parts_of, row_for, row_of, word_of}
use Rattle.sm_names.specs.Marks.{Entry}
use Rattle.script_lines.specs.declared.label.Label.{Label}
use Rattle.script_lines.specs.Labels.{label_of, label_text}
use Rattle.script_lines.specs.LineTexts.{demand_text}
use Rattle.script_labels.specs.declared.act.Binds.{Binds}
use Rattle.script_labels.specs.Names.{Names, names_after, no_names}
use Rattle.script_labels.specs.Tables.{Keeps}
use Rattle.script_lines.specs.LineTexts.{strength_name}
use Rattle.script_labels.specs.Texts.{bound_text, buffer_text, node_text, reply_text}
use Rattle.script_labels.specs.declared.recorder.Recorder.{Recorder}

-- what the labels of the entries so far stand for, and what each client is called, the last first
pub record Scribe : Type 0 where
  pub names : Names
  pub clients : List (ℕ × Label)

-- no entry was seen
abbrev pub first_scribe : Scribe
first_scribe = record { names = no_names; clients = [] }

-- what the next client is to be called
abbrev pub client_binds : Option Label → Binds
client_binds None = Binds.Nothing
client_binds (Some label) = Binds.Client label

-- a node has the label n and the number of an event
abbrev pub node_binds : ℕ → Binds
node_binds event = option_map_or Binds.Node (label_of (codes "n" ++ decimal event)) Binds.Nothing

-- a tracker has the label t and the number of its event
abbrev pub tracker_binds : ℕ → Binds
tracker_binds event = option_map_or Binds.Tracker (label_of (codes "t" ++ decimal event)) Binds.Nothing

-- what a call that brings this is to bind at this event, where the next client that joins has this label
abbrev pub binds_for : Option Label → ℕ → Product → Binds
binds_for next event Product.Client = client_binds next
binds_for next event Product.Collection = node_binds event
binds_for next event Product.Node = node_binds event
binds_for next event Product.Parcel = node_binds event
binds_for next event Product.Tracker = tracker_binds event
binds_for next event _ = Binds.Nothing

-- what the call of this event is to bind
abbrev pub binds_of : Option Label → ℕ → Call → Binds
binds_of next event call = binds_for next event (row_for call).brings

-- the label of the client
abbrev pub scribe_client_label : Scribe → ℕ → Option Label
scribe_client_label s client = lookup (λ other. other == client) s.clients

-- the client's label behind a space
abbrev pub client_text : Scribe → ℕ → List ℕ
client_text s client = 32 ∷ label_text (scribe_client_label s client)

-- the label that the line binds, behind a space
abbrev pub bound_word : Binds → List ℕ
bound_word binds = 32 ∷ bound_text binds

-- the caller: a client that joins is bound by the line
abbrev pub asker_text : Scribe → Binds → ℕ → Call → List ℕ
asker_text s binds client Call.Join = bound_text binds
asker_text s binds client _ = label_text (scribe_client_label s client)

-- the node or the buffer that a call is made on, behind a space
abbrev pub scribe_object_text : Scribe → Object NodeKey BufferName → List ℕ
scribe_object_text s Object.Nothing = []
scribe_object_text s (Object.Node node) = node_text s.names node
scribe_object_text s (Object.Buffer buffer) = buffer_text s.names buffer

-- what else it says, each word behind a space
abbrev pub scribe_argument_text : Scribe → Argument ℕ → List ℕ
scribe_argument_text s Argument.Nothing = []
scribe_argument_text s (Argument.Client to) = client_text s to
scribe_argument_text s (Argument.Children children) = if children then codes " children" else []
scribe_argument_text s (Argument.Constraints demand) = demand_text demand
scribe_argument_text s (Argument.Most most) = 32 ∷ decimal most
scribe_argument_text s (Argument.Strength strength) = 32 ∷ strength_name strength
scribe_argument_text s (Argument.Gift strength to) = 32 ∷ strength_name strength ++ client_text s to

-- the label that a line binds behind that, if its call brings what has a label
abbrev pub new_text : Product → Binds → List ℕ
new_text product binds = if brings_end product || is_tracker product then bound_word binds else []

-- the words of a call that is taken apart: its own, the object, what else it says, and the label that is bound
abbrev pub parts_text : Scribe → Binds → CallParts → List ℕ
parts_text s binds p =
    32 ∷ word_of p.kind ++ scribe_object_text s p.object ++ scribe_argument_text s p.argument ++ new_text (row_of p.kind).brings binds

-- the line that makes the call, without its end
abbrev pub call_text : Scribe → Binds → ℕ → Call → List ℕ
call_text s binds client call = asker_text s binds client call ++ parts_text s binds (parts_of call)

-- from now on the client is called so
abbrev pub scribe_with_client : Scribe → ℕ → Label → Scribe
scribe_with_client s client label = record s { clients = (client, label) ∷ s.clients }

-- what the clients are called after the reply
abbrev pub client_noted : Scribe → Binds → Reply → Scribe
client_noted s (Binds.Client label) (Reply.Joined client) = scribe_with_client s client label
client_noted s _ _ = s

-- what labels stand for after the reply, and what the clients are called
abbrev pub scribe_noted : Scribe → Binds → Reply → Scribe
scribe_noted s binds reply = client_noted (record s { names = names_after s.names binds reply }) binds reply

-- the same after an entry
abbrev pub scribe_after : Scribe → Option Label → ℕ → Entry → Scribe
scribe_after s next event entry = scribe_noted s (binds_of next event entry.1) entry.2

-- an entry: its line, and below it, behind two spaces, the reply as a run tells it
abbrev pub entry_text : Scribe → Option Label → ℕ → Entry → List ℕ
entry_text s next event entry =
    let binds = binds_of next event entry.1 in
    call_text s binds entry.0 entry.1 ++ codes "\n  " ++ reply_text s.names binds entry.2 ++ codes "\n"

-- the labels of the clients that are still to join after the call
abbrev pub labels_after : List Label → Call → List Label
labels_after (label ∷ labels) Call.Join = labels
labels_after labels _ = labels

-- the first of them
abbrev pub next_label : List Label → Option Label
next_label [] = None
next_label (label ∷ labels) = Some label

-- a record whose first event has this number, where clients with these labels have not joined yet
abbrev pub record_from : Scribe → List Label → ℕ → List Entry → List ℕ
record_from s labels event [] = []
record_from s labels event (entry ∷ entries) =
    entry_text s (next_label labels) event entry
    ++ record_from (scribe_after s (next_label labels) event entry) (labels_after labels entry.1) (event + 1) entries

-- the record of clients with these labels, which joined in this order
abbrev pub record_text : List Label → List Entry → List ℕ
record_text labels history = record_from first_scribe labels 1 history

-- the tables find what the labels stand for, and what each client is called
pub record RecorderNames (recorder : Recorder) (s : Scribe) : Type 0 where
  pub names : Keeps recorder.tables s.names
  pub clients : (client : ℕ) → lookup (λ other. client == other) recorder.clients.entries ≡ scribe_client_label s client
