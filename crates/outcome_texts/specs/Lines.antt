-- The lines of a script that are steps of clients.
use Rattle.std.specs.Prelude.{ℕ, ◌+◌, ◌-◌, ◌==◌, if◌then◌else◌, List, [], ◌∷◌, ◌++◌, map, Option, Some, None}
use Rattle.std.specs.Option.{option_and_then, option_map_or}
use Rattle.actor_scripts.specs.Steps.{client_place}
use Rattle.script_lines.specs.declared.label.Label.{Label}
use Rattle.script_lines.specs.declared.line.Line.{Line}
use Rattle.script_lines.specs.Lines.{line_of}
use Rattle.script_lines.specs.Pieces.{whole_lines}
use Rattle.outcome_texts.specs.declared.lines.StepLine.{StepLine}

-- the client whose step the line is
abbrev pub client_in : Line → Option Label
client_in (Line.Ask client request) = Some client
client_in (Line.Poll client tracker) = Some client
client_in _ = None

-- the place of that client in the order of the joins
abbrev pub line_of_step : List Label → List ℕ → Option ℕ
line_of_step labels bytes = option_and_then (client_place labels) (option_and_then client_in (line_of bytes))

-- a line that is a step: its client's place, its number, and its bytes
pub record ToldStep : Type 0 where
  pub actor : ℕ
  pub number : ℕ
  pub line : List ℕ

-- the line of this number, if it is a step
abbrev pub number_and_line : List Label → ℕ → List ℕ → List ToldStep
number_and_line labels number bytes =
    option_map_or (λ (actor : ℕ). record { actor = actor; number = number; line = bytes } ∷ []) (line_of_step labels bytes) []

-- the steps of these lines, of which the first has this number
abbrev pub steps_from : List Label → ℕ → List (List ℕ) → List ToldStep
steps_from labels number [] = []
steps_from labels number (line ∷ lines) = number_and_line labels number line ++ steps_from labels (number + 1) lines

-- the steps of a script
abbrev pub step_lines_of : List Label → List ℕ → List ToldStep
step_lines_of labels script = steps_from labels 1 (whole_lines script)

-- a step as it is told
abbrev pub told_line : StepLine → ToldStep
told_line step = record { actor = step.actor; number = step.number; line = step.line.now }

-- the steps as they are told
abbrev pub steps_in : List StepLine → List ToldStep
steps_in steps = map told_line steps

-- the actor's step of this number among these
abbrev pub actor_line : List StepLine → ℕ → ℕ → Option StepLine
actor_line [] actor step = None
actor_line (one ∷ steps) actor step =
    let here = actor_line steps actor (step - 1) in
    let later = actor_line steps actor step in
    if one.actor == actor then (if step == 0 then Some one else here) else later
