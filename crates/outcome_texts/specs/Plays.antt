-- The lines of steps as a script for all clients has them.
use Rattle.std.specs.Prelude.{ℕ, List, [], ◌∷◌, ◌++◌, slice_get, Option, None, codes}
use Rattle.std.specs.Fmt.{decimal}
use Rattle.std.specs.List.{flat_map}
use Rattle.std.specs.Map.{lookup}
use Rattle.std.specs.Option.{option_and_then, option_map, option_map_or}
use Rattle.sm_names.specs.declared.call_parts.Object.{Object}
use Rattle.script_lines.specs.declared.buffer_label.BufferLabel.{BufferLabel}
use Rattle.script_lines.specs.declared.label.Label.{Label}
use Rattle.script_lines.specs.declared.line.Line.{Line}
use Rattle.script_lines.specs.declared.line.Request.{Request}
use Rattle.script_lines.specs.Labels.{same_label}
use Rattle.script_lines.specs.LineTexts.{line_text}
use Rattle.script_lines.specs.Lines.{line_of}
use Rattle.explore_model.specs.declared.plan.Plan.{Plan}
use Rattle.explore_model.specs.declared.plan.Planned.{Planned}
use Rattle.explore_model.specs.Plans.{steps_of}
use Rattle.script_lines.specs.Parts.{plural_end}
use Rattle.outcome_texts.specs.Lines.{actor_line}
use Rattle.outcome_texts.specs.declared.labels.LabelNames.{LabelNames}
use Rattle.outcome_texts.specs.declared.lines.StepLine.{StepLine}
use Rattle.outcome_texts.specs.declared.telling.Telling.{Telling}

-- which of the actor's steps stands at this place of its plan
abbrev pub step_told : List Plan → ℕ → ℕ → Option ℕ
step_told plans actor at = option_and_then
    (λ (plan : Plan). option_map (λ (next : Planned). next.at) (slice_get (steps_of plan) at))
    (slice_get plans actor)

-- the line of that step
abbrev pub line_told : Telling → ℕ → ℕ → Option StepLine
line_told telling actor at = option_and_then (actor_line telling.steps.now actor) (step_told telling.plans.now actor at)

-- the other label of an actor's node or tracker
abbrev pub other_name : LabelNames → ℕ → Label → Option Label
other_name names actor label =
    option_and_then (λ table. lookup (same_label label) table.entries) (slice_get names.others.items actor)

-- what it is called: as the actor calls it, if it has no other label
abbrev pub named : LabelNames → ℕ → Label → Label
named names actor label = option_map_or (λ (other : Label). other) (other_name names actor label) label

-- an object whose labels have their other names
abbrev pub object_named : (Label → Label) → Object Label BufferLabel → Object Label BufferLabel
object_named name Object.Nothing = Object.Nothing
object_named name (Object.Node label) = Object.Node (name label)
object_named name (Object.Buffer buffer) = Object.Buffer (record { node = name buffer.node; index = buffer.index })

-- a request whose labels have their other names
abbrev pub request_named : (Label → Label) → Request Label BufferLabel → Request Label BufferLabel
request_named name r = record {
  kind = r.kind;
  object = object_named name r.object;
  argument = r.argument;
  binds = option_map name r.binds;
}

-- the line with what nodes and trackers are called
abbrev pub line_named : (Label → Label) → Line → Line
line_named name Line.Nothing = Line.Nothing
line_named name (Line.Join client) = Line.Join client
line_named name (Line.Ask client request) = Line.Ask client (request_named name request)
line_named name (Line.Poll client tracker) = Line.Poll client (name tracker)
line_named name (Line.Show view) = Line.Show view

-- what the line's step makes is called so
abbrev pub bound_by : (Label → Label) → Line → Option Label
bound_by name (Line.Ask client request) = option_map name request.binds
bound_by name _ = None

-- the label that a line binds, by its other name
abbrev pub line_bound : (Label → Label) → List ℕ → Option Label
line_bound name bytes = option_and_then (bound_by name) (line_of bytes)

-- what the step at this place of the actor's plan makes is called so
abbrev pub bound_at : Telling → ℕ → ℕ → Option Label
bound_at telling actor at = option_and_then
    (λ (step : StepLine). line_bound (named telling.names.now actor) step.line.now)
    (line_told telling actor at)

-- the lines of the joins
abbrev pub joins_text : List Label → List ℕ
joins_text labels = flat_map (λ (client : Label). line_text (Line.Join client) ++ 10 ∷ []) labels

-- the line of an actor's step, with its end
abbrev pub step_text : LabelNames → ℕ → List ℕ → List ℕ
step_text names actor bytes =
    option_map_or (λ (line : Line). line_text (line_named (named names actor) line)) (line_of bytes) [] ++ 10 ∷ []

-- how many, with the word
abbrev pub counted : ℕ → List ℕ → List ℕ
counted number word = decimal number ++ codes " " ++ word ++ plural_end number

-- the pieces, one after another
abbrev pub pieces : List (List ℕ) → List ℕ
pieces texts = flat_map (λ (text : List ℕ). text) texts
