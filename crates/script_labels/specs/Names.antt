-- What labels stand for, and what a line asks for by them.
use Rattle.std.specs.Prelude.{ℕ, Bool, ◌==◌, if◌then◌else◌, List, [], ◌∷◌, map, Option, Some, None, is_some}
use Rattle.std.specs.Map.{lookup}
use Rattle.std.specs.Option.{option_map, option_map_or, option_and_then}
use Rattle.sm_names.specs.declared.call_parts.Argument.{Argument}
use Rattle.sm_names.specs.declared.call_parts.Object.{Object}
use Rattle.sm_names.specs.declared.call_parts.Product.{Product}
use Rattle.sm_names.specs.declared.keys.BufferName.{BufferName}
use Rattle.sm_names.specs.declared.keys.NodeKey.{NodeKey}
use Rattle.sm_names.specs.declared.messages.Call.{Call}
use Rattle.sm_names.specs.declared.messages.Reply.{Reply}
use Rattle.sm_names.specs.CallRows.{call_of, is_tracker, parts, row_of}
use Rattle.sm_names.specs.Sameness.{same_key}
use Rattle.script_labels.specs.declared.act.Act.{Act}
use Rattle.script_labels.specs.declared.act.Binds.{Binds}
use Rattle.script_lines.specs.declared.buffer_label.BufferLabel.{BufferLabel}
use Rattle.script_lines.specs.declared.label.Label.{Label}
use Rattle.script_lines.specs.declared.line.Line.{Line}
use Rattle.script_lines.specs.declared.line.Request.{Request}
use Rattle.script_lines.specs.Labels.{same_label}
use Rattle.script_lines.specs.Lines.{line_of}

-- a node and its collection
abbrev pub Place : Type 0
Place = NodeKey × ℕ

-- what labels stand for, the newest first
pub record Names : Type 0 where
  pub clients : List (Label × ℕ)
  pub nodes : List (Label × Place)
  pub trackers : List (Label × ℕ)

-- no label stands for anything
abbrev pub no_names : Names
no_names = record { clients = []; nodes = []; trackers = [] }

-- the client of this label
abbrev pub labelled_client : Names → Label → Option ℕ
labelled_client names label = lookup (λ other. same_label other label) names.clients

-- the node of this label, with its collection
abbrev pub labelled_place : Names → Label → Option Place
labelled_place names label = lookup (λ other. same_label other label) names.nodes

-- the node of this label
abbrev pub labelled_node : Names → Label → Option NodeKey
labelled_node names label = option_map (λ (p : Place). p.0) (labelled_place names label)

-- the buffer of this label: of the collection of the node, whether there is such a buffer or not
abbrev pub labelled_buffer : Names → BufferLabel → Option BufferName
labelled_buffer names label =
    option_map (λ (p : Place). record { collection = p.1; index = label.index }) (labelled_place names label.node)

-- the tracker of this label
abbrev pub labelled_tracker : Names → Label → Option ℕ
labelled_tracker names label = lookup (λ other. same_label other label) names.trackers

-- the first label that was given to what passes the test, where the newest stand first
abbrev pub first_label : {A : Type 0} → (A → Bool) → List (A × Label) → Option Label
first_label test [] = None
first_label test (given ∷ older) =
    option_map_or Some (first_label test older) (if test given.0 then Some given.1 else None)

-- the label under which the node was born: the first that stood for it
abbrev pub label_of_node : Names → NodeKey → Option Label
label_of_node names node =
    first_label (λ other. same_key other node) (map (λ (n : Label × Place). (n.1.0, n.0)) names.nodes)

-- the label of the collection's root: the first that stood for a node of it
abbrev pub label_of_root : Names → ℕ → Option Label
label_of_root names collection =
    first_label (λ other. other == collection) (map (λ (n : Label × Place). (n.1.1, n.0)) names.nodes)

-- the label of the tracker
abbrev pub label_of_tracker : Names → ℕ → Option Label
label_of_tracker names tracker =
    first_label (λ other. other == tracker) (map (λ (t : Label × ℕ). (t.1, t.0)) names.trackers)

-- one more client
abbrev pub with_labelled_client : Names → Label → ℕ → Names
with_labelled_client names label client = record names { clients = (label, client) ∷ names.clients }

-- one more label of a node
abbrev pub with_labelled_node : Names → Label → NodeKey → ℕ → Names
with_labelled_node names label node collection = record names { nodes = (label, (node, collection)) ∷ names.nodes }

-- one more tracker
abbrev pub with_labelled_tracker : Names → Label → ℕ → Names
with_labelled_tracker names label tracker = record names { trackers = (label, tracker) ∷ names.trackers }

-- what labels stand for after the reply: a label is bound only where the call made what it is to stand for. An end that
-- was collected gets one more label
abbrev pub names_after : Names → Binds → Reply → Names
names_after names (Binds.Client label) (Reply.Joined client) = with_labelled_client names label client
names_after names (Binds.Node label) (Reply.Token node collection) = with_labelled_node names label node collection
names_after names (Binds.Node label) (Reply.Collected node kind collection) = with_labelled_node names label node collection
names_after names (Binds.Tracker label) (Reply.Tracker tracker) = with_labelled_tracker names label tracker
names_after names _ _ = names

-- the act, for a node whose label is still free
abbrev pub for_new : Names → Label → Act → Option Act
for_new names label act = if is_some (labelled_node names label) then None else Some act

-- the act, for a tracker whose label is still free
abbrev pub for_tracker : Names → Label → Act → Option Act
for_tracker names label act = if is_some (labelled_tracker names label) then None else Some act

-- what the labels stand for that a call is made on
abbrev pub object_named : Names → Object Label BufferLabel → Option (Object NodeKey BufferName)
object_named names Object.Nothing = Some Object.Nothing
object_named names (Object.Node node) = option_map Object.Node (labelled_node names node)
object_named names (Object.Buffer buffer) = option_map Object.Buffer (labelled_buffer names buffer)

-- what else the call says, by the clients that labels stand for
abbrev pub argument_named : Names → Argument Label → Option (Argument ℕ)
argument_named names Argument.Nothing = Some Argument.Nothing
argument_named names (Argument.Client to) = option_map Argument.Client (labelled_client names to)
argument_named names (Argument.Children children) = Some (Argument.Children children)
argument_named names (Argument.Constraints constraints) = Some (Argument.Constraints constraints)
argument_named names (Argument.Most most) = Some (Argument.Most most)
argument_named names (Argument.Strength strength) = Some (Argument.Strength strength)
argument_named names (Argument.Gift strength to) = option_map (Argument.Gift strength) (labelled_client names to)

-- the call that is asked for
abbrev pub call_named : Names → Request Label BufferLabel → Option Call
call_named names r = option_and_then
    (λ object. option_and_then (λ argument. call_of (parts r.kind object argument)) (argument_named names r.argument))
    (object_named names r.object)

-- the act, where the label that is to be bound, if there is one, stands for nothing
abbrev pub act_binding : Names → Product → ℕ → Call → Option Label → Option Act
act_binding names product client call None = Some (Act.Ask client call Binds.Nothing)
act_binding names product client call (Some label) =
    let node : Option Act = for_new names label (Act.Ask client call (Binds.Node label)) in
    if is_tracker product then for_tracker names label (Act.Ask client call (Binds.Tracker label)) else node

-- what a client asks
abbrev pub ask_by : Names → ℕ → Request Label BufferLabel → Option Act
ask_by names client r =
    option_and_then (λ call. act_binding names (row_of r.kind).brings client call r.binds) (call_named names r)

-- what the line asks for; a label that is used and stands for nothing, and one that is to be bound and stands for
-- something, make it bad
abbrev pub act_of : Names → Line → Option Act
act_of names Line.Nothing = Some Act.Nothing
act_of names (Line.Join client) =
    if is_some (labelled_client names client) then None else Some (Act.Ask 0 Call.Join (Binds.Client client))
act_of names (Line.Ask client request) = option_and_then (λ c. ask_by names c request) (labelled_client names client)
act_of names (Line.Poll client tracker) =
    option_and_then (λ c. option_map Act.Poll (labelled_tracker names tracker)) (labelled_client names client)
act_of names (Line.Show view) = Some (Act.Show view)

-- what the bytes of a line ask for, without its end; a bad line asks for nothing that is known
abbrev pub act_in : Names → List ℕ → Option Act
act_in names bytes = option_and_then (act_of names) (line_of bytes)
