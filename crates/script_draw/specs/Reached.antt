-- How far a script is played that is drawn. No public clause cites this module.
use Rattle.std.specs.Prelude.{ℕ, ◌≡◌, ◌+◌, ◌≤◌, Bool, true, false, List, [], ◌∷◌, ◌++◌, length, Some, None, Option}
use Rattle.std.specs.Option.{IfSome}
use Rattle.report_io.specs.declared.fault.ReportFault.{ReportFault}
use Rattle.report_io.specs.IndentedLines.{is_indented}
use Rattle.report_io.specs.Takings.{HasText, ScriptStops, WhyNot}
use Rattle.sm_names.specs.declared.messages.Call.{Call}
use Rattle.script_labels.specs.declared.act.Act.{Act}
use Rattle.script_labels.specs.declared.act.Binds.{Binds}
use Rattle.script_labels.specs.declared.stop.LineStop.{LineStop}
use Rattle.script_labels.specs.Names.{act_in}
use Rattle.sm_script.specs.Runs.{IsUnkept, IsWhy}
use Rattle.sm_script.specs.Scenes.{Scene, Setting, next_scene}
use Rattle.sm_script.specs.Sessions.{IsAt, IsSameSetting, setting_of}
use Rattle.event_facts.specs.declared.event.Event.{Event}
use Rattle.event_texts.specs.declared.event_writer.EventWriter.{EventWriter}
use Rattle.event_texts.specs.Called.{Knows}
use Rattle.event_texts.specs.EventLines.{IsEventOf}
use Rattle.picture_model.specs.PictureStates.{HasSeen, KnowsKept, known_after, known_in}
use Rattle.picture_model.specs.Seen.{named_in}
use Rattle.script_draw.specs.declared.draw.Scroll.{Scroll}
use Rattle.script_draw.specs.Draws.{IsLast}
use Rattle.report_io.specs.declared.view.Until.{Until}
use Rattle.script_draw.specs.Played.{IsAhead, IsWithin, Played, WasAhead, asked_number, found, is_reached}

-- these lines were played, which have no more of what is sought than is asked for, and before the last of them fewer
pub record Reached (setting : Setting) (until : Until) (scroll : Scroll) (lines : List (List ℕ)) : Type 0 where
  pub pool : scroll.event_writer.session.core.pool ≡ setting.pool
  pub limits : scroll.event_writer.session.core.limits ≡ setting.limits
  pub bound : scroll.limits ≡ setting.limits
  pub scene : Scene
  pub played : Played lines scene scroll.line.items
  pub knows : Knows scroll.event_writer scene
  pub kept : KnowsKept scroll.event_writer.session.core scroll.picture_state
  pub seen : HasSeen setting.pool scene.history (known_in scroll.picture_state)
  pub last : IsLast setting.pool scene.history scroll.event
  pub within : IsWithin (asked_number until) (found until setting.pool lines scene)
  pub ahead : WasAhead until setting.pool lines scene scroll.line.items played

-- one more line was played between the two moments, where fewer were found than are asked for
abbrev pub PlaysLine : Scroll → Scroll → List ℕ → Type 0
PlaysLine old new line = (setting : Setting) (until : Until) (lines : List (List ℕ)) (far : Reached setting until old lines) →
    IsAhead until setting.pool lines far.scene → Reached setting until new (lines ++ line ∷ [])

-- the picture state took in the event of this call between the two moments
abbrev pub TakesIn : Scroll → Scroll → Call → Event → Type 0
TakesIn old new call event = (id : ℕ) → known_in new.picture_state id ≡ known_after new.event_writer.session.core
    (named_in old.event_writer.session.core call) event id (known_in old.picture_state id)

-- the call was made between the two moments, and its event is the last
pub record MakesEvent (old new : EventWriter) (last : Option Event) (client : ℕ) (call : Call) (binds : Binds) : Type 0 where
  pub event : Event
  pub is : IsEventOf old.session.core client call event
  pub kept : last ≡ Some event
  pub knows : (scene : Scene) → Knows old scene → Knows new (next_scene scene client call binds event.reply)

-- the line made this call between the two moments
pub record LineMakesCall (old new : Scroll) (client : ℕ) (call : Call) (binds : Binds) (line : List ℕ) : Type 0 where
  pub setting : (scene : Scene) → IsAt old.event_writer.session scene → IsSameSetting old.event_writer.session new.event_writer.session
  pub limits : new.limits ≡ old.limits
  pub failures : new.event_writer.failures ≤ old.event_writer.failures + 1
  pub line_is : new.line.items ≡ line
  pub made : MakesEvent old.event_writer new.event_writer new.event client call binds
  pub seen : IfSome new.event (TakesIn old new call)
  pub kept : (scene : Scene) → Knows old.event_writer scene → KnowsKept old.event_writer.session.core old.picture_state →
      KnowsKept new.event_writer.session.core new.picture_state

-- the line is not indented, and asks for this act
pub record AsksFor (scene : Scene) (line : List ℕ) (act : Act) : Type 0 where
  pub whole : is_indented line ≡ false
  pub good : act_in scene.names line ≡ Some act

-- why a line was not played, where this happened so far
abbrev pub IsHeldUp : Setting → Scene → List ℕ → LineStop → Type 0
IsHeldUp setting scene line LineStop.BadLine = (is_indented line ≡ false) × (act_in scene.names line ≡ None)
IsHeldUp setting scene line LineStop.HistoryFull = (is_indented line ≡ false) × IsUnkept setting scene line
IsHeldUp setting scene line LineStop.NoMemory = Unit {0}

-- what is asked for is still ahead of these lines, or was reached by the last of them
abbrev pub IsMet : Bool → Until → ℕ → List (List ℕ) → Scene → Type 0
IsMet true until pool lines scene = IsAhead until pool lines scene
IsMet false until pool lines scene = is_reached (asked_number until) (found until pool lines scene) ≡ true

-- these lines were played, by a scroll that was this one at first; nothing is told of them
abbrev pub PlayedFrom : Scroll → Scroll → Bool → List (List ℕ) → List ℕ → Type 0
PlayedFrom first now more lines text = (text ≡ []) × (now.until ≡ first.until)
    × (far : Reached (setting_of first.event_writer.session) first.until now lines) × IsMet more first.until first.event_writer.session.core.pool lines far.scene

-- the line behind these was not played for this reason, and changed nothing
abbrev pub Unplayed : Scroll → Scroll → List (List ℕ) → List ℕ → List ℕ → ReportFault → Type 0
Unplayed first now lines text line fault = (text ≡ []) × (is_indented line ≡ false)
    × (far : Reached (setting_of first.event_writer.session) first.until now lines)
    × IsAhead first.until first.event_writer.session.core.pool lines far.scene
    × IsWhy (setting_of first.event_writer.session) far.scene line (length lines + 1) fault

-- a script was not played to its end, nor to what is asked for
abbrev pub PlayStops : Scroll → Scroll → Option (List ℕ) → Option (List ℕ) → List ℕ → ReportFault → Type 0
PlayStops first now old new script fault =
    ScriptStops (HasText (PlayedFrom first)) (WhyNot (PlayedFrom first) (Unplayed first) now) (PlayedFrom first now true) old new script fault

-- the fault is one of a line, which changed nothing
abbrev pub stops_at_line : ReportFault → Bool
stops_at_line (ReportFault.BadLine number reason) = true
stops_at_line ReportFault.HistoryFull = true
stops_at_line ReportFault.ReadFault = false
stops_at_line ReportFault.TooLong = false
stops_at_line (ReportFault.WriteFault failed) = false
stops_at_line ReportFault.NoMemory = false
stops_at_line (ReportFault.Missing sought number) = false
