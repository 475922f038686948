-- What a script of actors says, line by line.
use Rattle.std.specs.Prelude.{◌≡◌, ◌≤◌, ℕ, ◌+◌, ◌*◌, Bool, true, false, not, ◌==◌, ◌&&◌, ◌||◌, if◌then◌else◌, List, [], ◌∷◌, ◌++◌, length, map, Option, Some, None, Ok, Err, Result, ⊤}
use Rattle.std.specs.List.{list_any, slice_index_or, slice_set}
use Rattle.std.specs.Option.{option_map, option_map_or, option_and_then}
use Rattle.actor_scripts.specs.declared.step.ActorScript.{ActorScript}
use Rattle.actor_scripts.specs.declared.step.Step.{Step}
use Rattle.script_lines.specs.declared.label.Label.{Label}
use Rattle.script_lines.specs.declared.line.Line.{Line}
use Rattle.script_lines.specs.Labels.{same_label}
use Rattle.script_lines.specs.Lines.{line_of}
use Rattle.script_lines.specs.Pieces.{whole_lines, last_part}
use Rattle.actor_scripts.specs.declared.actor_list.ActorList.{ActorList}
use Rattle.actor_scripts.specs.declared.builder.ActorListBuilder.{ActorListBuilder}
use Rattle.actor_scripts.specs.declared.halt.Halt.{Halt}
use Rattle.actor_scripts.specs.Steps.{Name, client_place, step_of}

-- the clients that joined, in that order, and the steps of each
pub record Actors : Type 0 where
  pub labels : List Label
  pub scripts : List (List Step)

-- what was read so far: the actors, the labels that they named, whether a step came, and how many lines
pub record Reading : Type 0 where
  pub actors : Actors
  pub named : List Name
  pub begun : Bool
  pub lines : ℕ

-- nothing was read
abbrev pub first_reading : Reading
first_reading = record { actors = record { labels = []; scripts = [] }; named = []; begun = false; lines = 0 }

-- one more client, without steps
abbrev pub with_actor : Actors → Label → Actors
with_actor actors label = record { labels = actors.labels ++ label ∷ []; scripts = actors.scripts ++ [] ∷ [] }

-- one more step of the actor of this place
abbrev pub with_step : Actors → ℕ → Step → Actors
with_step actors actor step =
    record actors { scripts = slice_set actors.scripts actor (slice_index_or actors.scripts actor [] ++ step ∷ []) }

-- a client joins: before all steps, and under a label that no other joined under
abbrev pub join_effect : Reading → Label → Option Reading
join_effect so_far label =
    if so_far.begun || list_any (same_label label) so_far.actors.labels
    then None
    else Some (record so_far { actors = with_actor so_far.actors label })

-- the line is a step of the client of this label, which joined
abbrev pub step_effect : Reading → Label → Line → Option Reading
step_effect so_far client line = option_and_then
    (λ actor. option_map
    (λ (said : Step × List Name). record so_far { actors = with_step so_far.actors actor said.0; named = said.1; begun = true })
    (step_of so_far.actors.labels so_far.named actor line))
    (client_place so_far.actors.labels client)

-- what the line leads to, but for its count
abbrev pub line_effect : Reading → Line → Option Reading
line_effect so_far Line.Nothing = Some so_far
line_effect so_far (Line.Join client) = join_effect so_far client
line_effect so_far (Line.Ask client request) = step_effect so_far client (Line.Ask client request)
line_effect so_far (Line.Poll client tracker) = step_effect so_far client (Line.Poll client tracker)
line_effect so_far (Line.Show view) = None

-- one more line is counted
abbrev pub line_counted : Reading → Reading
line_counted so_far = record so_far { lines = so_far.lines + 1 }

-- what the bytes of one more line lead to; a bad line leads nowhere
abbrev pub after_line : Reading → List ℕ → Option Reading
after_line so_far bytes = option_map line_counted (option_and_then (line_effect so_far) (line_of bytes))

-- what these lines lead to, or the number of the first bad one
abbrev pub after_lines : Reading → List (List ℕ) → Result Reading ℕ
after_lines so_far [] = Ok so_far
after_lines so_far (line ∷ lines) =
    option_map_or (λ next. after_lines next lines) (after_line so_far line) (Err (so_far.lines + 1))

-- nothing is left behind the last line, and somebody joined
abbrev pub is_ended : List ℕ → List Label → Bool
is_ended rest labels = length rest == 0 && not (length labels == 0)

-- the actors at the end of a script; else the number of the line behind the last
abbrev pub actors_at_end : List ℕ → Reading → Result Actors ℕ
actors_at_end rest so_far = if is_ended rest so_far.actors.labels then Ok so_far.actors else Err (so_far.lines + 1)

-- the actors that the rest of a script leads to, or the number of the first bad line
abbrev pub actors_after : List ℕ → Result Reading ℕ → Result Actors ℕ
actors_after rest (Ok so_far) = actors_at_end rest so_far
actors_after rest (Err number) = Err number

-- the actors that the rest of a script leads to: those after its whole lines and its last part
abbrev pub script_actors_from : Reading → List ℕ → Result Actors ℕ
script_actors_from so_far script = actors_after (last_part script) (after_lines so_far (whole_lines script))

-- the actors of a script: all clients with their steps, or the number of its first bad line
abbrev pub script_actors : List ℕ → Result Actors ℕ
script_actors script = script_actors_from first_reading script

-- the steps of a script
abbrev pub steps_of : ActorScript → List Step
steps_of script = script.steps.items

-- the actors of a list
abbrev pub actors_of : ActorList → Actors
actors_of list = record { labels = list.labels.items; scripts = map steps_of list.scripts.items }

-- what was read into these tables
abbrev pub seen : ActorListBuilder → Reading
seen builder = record {
  actors = record { labels = builder.clients.keys; scripts = map steps_of builder.scripts.items };
  named = builder.named.keys;
  begun = builder.begun;
  lines = builder.lines;
}

-- each client has a script, and no more labels stand in the tables than this many lines can have
pub record BuilderInvariant (builder : ActorListBuilder) (lines : ℕ) : Type 0 where
  pub scripts : length builder.scripts.items ≡ length builder.clients.keys
  pub clients : length builder.clients.keys ≤ lines
  pub named : length builder.named.keys ≤ 2 * lines

-- why a line is not read: it is bad, or memory was refused
abbrev pub Halts : {A : Type 0} → Option A → Halt → Type 0
Halts said Halt.BadLine = said ≡ None
Halts said Halt.NoMemory = ⊤
