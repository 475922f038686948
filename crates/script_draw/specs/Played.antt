-- What the lines of a script lead to, where its trees are drawn.
use Rattle.std.specs.Prelude.{ℕ, zero, suc, ◌≡◌, ◌+◌, ◌<◌, ◌≤◌, ◌==◌, Bool, true, false, List, [], ◌∷◌, ◌++◌, length, Option, Some, None, option_map}
use Rattle.sm_names.specs.declared.messages.Call.{Call}
use Rattle.sm_names.specs.declared.messages.Reply.{Reply}
use Rattle.sm_names.specs.Timelines.{timeline}
use Rattle.report_io.specs.declared.fault.Sought.{Sought}
use Rattle.report_io.specs.IndentedLines.{is_indented, unindented}
use Rattle.script_labels.specs.declared.act.Act.{Act}
use Rattle.script_labels.specs.declared.act.Binds.{Binds}
use Rattle.script_labels.specs.Names.{act_in}
use Rattle.sm_script.specs.Scenes.{LeadsTo, Scene, Setting, first_scene, next_scene}
use Rattle.event_texts.specs.Failing.{failures}
use Rattle.report_io.specs.declared.view.Until.{Until}

-- the act is a call, which makes an event
abbrev pub is_call : Act → Bool
is_call (Act.Ask client call binds) = true
is_call _ = false

-- these lines, one after another, lead to the scene, and the last of them that made an event is this one; nothing where none did.
-- An indented line is passed over, and a line that makes no event changes nothing
pub data Played : List (List ℕ) → Scene → List ℕ → Type 0 where
  Begins : Played [] first_scene []
  Passes : (lines : List (List ℕ)) (line last : List ℕ) (scene : Scene) → Played lines scene last →
      is_indented line ≡ true → Played (lines ++ line ∷ []) scene last
  Looks : (lines : List (List ℕ)) (line last : List ℕ) (scene : Scene) (act : Act) → Played lines scene last →
      is_indented line ≡ false → act_in scene.names line ≡ Some act → is_call act ≡ false → Played (lines ++ line ∷ []) scene last
  Makes : (lines : List (List ℕ)) (line last : List ℕ) (scene : Scene) (client : ℕ) (call : Call) (binds : Binds) (reply : Reply) →
      Played lines scene last → is_indented line ≡ false → act_in scene.names line ≡ Some (Act.Ask client call binds) →
      Played (lines ++ line ∷ []) (next_scene scene client call binds reply) line

-- these lines lead to the scene, whose history is legal; the last of them that made an event is this one
pub record LeadsToScene (setting : Setting) (lines : List (List ℕ)) (scene : Scene) (last : List ℕ) : Type 0 where
  pub played : Played lines scene last
  pub texts : List ℕ
  pub leads : LeadsTo setting (unindented lines) texts scene

-- what is sought, and which of it; nothing where the last line is asked for
abbrev pub wanted : Until → Option (Sought × ℕ)
wanted Until.Last = None
wanted (Until.Event number) = Some (Sought.Event, number)
wanted (Until.Line number) = Some (Sought.Line, number)
wanted (Until.Failure number) = Some (Sought.Failure, number)

-- what is sought, if none of it is wanted: that of the number 0
abbrev pub none_of : Option (Sought × ℕ) → Option Sought
none_of None = None
none_of (Some (sought, zero)) = Some sought
none_of (Some (sought, suc number)) = None

-- the same of what is asked for
abbrev pub none_wanted : Until → Option Sought
none_wanted until = none_of (wanted until)

-- which of it
abbrev pub asked_number : Until → Option ℕ
asked_number until = option_map (λ (w : Sought × ℕ). w.1) (wanted until)

-- how many of what is sought these lines have, where they lead to this scene: events, lines, or events in which nodes failed
abbrev pub found : Until → ℕ → List (List ℕ) → Scene → ℕ
found Until.Last pool lines scene = 0
found (Until.Event number) pool lines scene = length scene.history
found (Until.Line number) pool lines scene = length lines
found (Until.Failure number) pool lines scene = failures (timeline pool scene.history)

-- no more were found than are asked for
abbrev pub IsWithin : Option ℕ → ℕ → Type 0
IsWithin None count = Unit {0}
IsWithin (Some number) count = count ≤ number

-- fewer were found than are asked for
abbrev pub ComesBefore : Option ℕ → ℕ → Type 0
ComesBefore None count = Unit {0}
ComesBefore (Some number) count = count < number

-- as many were found as are asked for
abbrev pub is_reached : Option ℕ → ℕ → Bool
is_reached None count = false
is_reached (Some number) count = number == count

-- these lines have fewer than are asked for
abbrev pub IsAhead : Until → ℕ → List (List ℕ) → Scene → Type 0
IsAhead until pool lines scene = ComesBefore (asked_number until) (found until pool lines scene)

-- the lines before the last had fewer: what is asked for is reached by the last line at the earliest
abbrev pub WasAhead : (until : Until) (pool : ℕ) (lines : List (List ℕ)) (scene : Scene) (last : List ℕ) → Played lines scene last → Type 0
WasAhead until pool lines scene last Begins = Unit {0}
WasAhead until pool lines scene last (Passes before line before_last there so_far skip) = IsAhead until pool before there
WasAhead until pool lines scene last (Looks before line before_last there act so_far whole good is) = IsAhead until pool before there
WasAhead until pool lines scene last (Makes before line before_last there client call binds reply so_far whole good) =
    IsAhead until pool before there
