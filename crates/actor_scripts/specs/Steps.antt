-- What a line says as a step of an actor.
use Rattle.std.specs.Prelude.{ℕ, Bool, ◌&&◌, ◌==◌, if◌then◌else◌, List, [], ◌∷◌, ◌++◌, Option, Some, None}
use Rattle.std.specs.List.{list_any, position, position_or_len}
use Rattle.std.specs.Option.{option_map}
use Rattle.sm_names.specs.declared.call_parts.Argument.{Argument}
use Rattle.sm_names.specs.declared.call_parts.Object.{Object}
use Rattle.actor_scripts.specs.declared.step.Step.{Step}
use Rattle.actor_scripts.specs.declared.step.StepBuffer.{StepBuffer}
use Rattle.script_lines.specs.declared.buffer_label.BufferLabel.{BufferLabel}
use Rattle.script_lines.specs.declared.label.Label.{Label}
use Rattle.script_lines.specs.declared.line.Line.{Line}
use Rattle.script_lines.specs.declared.line.Request.{Request}
use Rattle.script_lines.specs.Labels.{same_label}

-- a label of a node or of a tracker, with the place of its actor
abbrev pub Name : Type 0
Name = ℕ × Label

-- the labels are one, and of one actor
abbrev pub same_name : Name → Name → Bool
same_name a b = a.0 == b.0 && same_label a.1 b.1

-- the number of the label: its place among those that were named so far, or else the next place
abbrev pub label_number : List Name → Name → ℕ
label_number named name = position_or_len (same_name name) named

-- the labels with this one appended, unless it is among them
abbrev pub naming : List Name → Name → List Name
naming named name = if list_any (same_name name) named then named else named ++ name ∷ []

-- the place of the client of this label, in the order of the joins
abbrev pub client_place : List Label → Label → Option ℕ
client_place clients label = position (same_label label) clients

-- what a call is made on, by numbers of labels
abbrev pub object_numbered : List Name → ℕ → Object Label BufferLabel → Object ℕ StepBuffer
object_numbered named actor Object.Nothing = Object.Nothing
object_numbered named actor (Object.Node node) = Object.Node (label_number named (actor, node))
object_numbered named actor (Object.Buffer buffer) =
    Object.Buffer (record { node = label_number named (actor, buffer.node); index = buffer.index })

-- the labels that are named then
abbrev pub object_naming : List Name → ℕ → Object Label BufferLabel → List Name
object_naming named actor Object.Nothing = named
object_naming named actor (Object.Node node) = naming named (actor, node)
object_naming named actor (Object.Buffer buffer) = naming named (actor, buffer.node)

-- what else the call says, by places of clients
abbrev pub argument_placed : List Label → Argument Label → Option (Argument ℕ)
argument_placed clients Argument.Nothing = Some Argument.Nothing
argument_placed clients (Argument.Client to) = option_map Argument.Client (client_place clients to)
argument_placed clients (Argument.Children children) = Some (Argument.Children children)
argument_placed clients (Argument.Constraints constraints) = Some (Argument.Constraints constraints)
argument_placed clients (Argument.Most most) = Some (Argument.Most most)
argument_placed clients (Argument.Strength strength) = Some (Argument.Strength strength)
argument_placed clients (Argument.Gift strength to) = option_map (Argument.Gift strength) (client_place clients to)

-- the label that the call binds, by its number
abbrev pub binds_numbered : List Name → ℕ → Option Label → Option ℕ
binds_numbered named actor None = None
binds_numbered named actor (Some label) = Some (label_number named (actor, label))

-- the labels that are named then
abbrev pub binds_naming : List Name → ℕ → Option Label → List Name
binds_naming named actor None = named
binds_naming named actor (Some label) = naming named (actor, label)

-- what the actor of this place asks, and the labels that are named then. A label in front is named before one behind it; a
-- client that the call is for must have joined
abbrev pub request_numbered : List Label → List Name → ℕ → Request Label BufferLabel → Option (Request ℕ StepBuffer × List Name)
request_numbered clients named actor r =
    let left : List Name = object_naming named actor r.object in
    option_map (λ (argument : Argument ℕ). (
      record {
        kind = r.kind;
        object = object_numbered named actor r.object;
        argument = argument;
        binds = binds_numbered left actor r.binds;
      },
      binds_naming left actor r.binds,
    ))
    (argument_placed clients r.argument)

-- the step that the line is for the actor of this place, and the labels that are named then
abbrev pub step_of : List Label → List Name → ℕ → Line → Option (Step × List Name)
step_of clients named actor Line.Nothing = None
step_of clients named actor (Line.Join client) = None
step_of clients named actor (Line.Ask client request) = option_map
    (λ (said : Request ℕ StepBuffer × List Name). (Step.Ask said.0, said.1))
    (request_numbered clients named actor request)
step_of clients named actor (Line.Poll client tracker) =
    Some (Step.Poll (label_number named (actor, tracker)), naming named (actor, tracker))
step_of clients named actor (Line.Show view) = None
