-- What comes of drawing a script.
use Rattle.std.specs.Prelude.{ℕ, ◌≡◌, ◌≢◌, ◌⊎◌, ◌+◌, ◌<◌, false, List, []}
use Rattle.std.specs.Prelude.{◌∷◌, ◌++◌, length, Option, Some, None, Result, MatchResult}
use Rattle.std.specs.Io.KnownBytes.{Keeps}
use Rattle.sm_names.specs.declared.messages.Call.{Call}
use Rattle.sm_names.specs.Marks.{Entry}
use Rattle.core_state.specs.Shown.{Shows}
use Rattle.core_state.specs.State.{State}
use Rattle.event_facts.specs.declared.event.Event.{Event}
use Rattle.script_lines.specs.Pieces.{whole_lines, last_part}
use Rattle.report_io.specs.declared.fault.ReportFault.{ReportFault}
use Rattle.report_io.specs.declared.fault.Sought.{Sought}
use Rattle.report_io.specs.Faults.{EndsReport, HasReason, IsBadLine, IsWriteFault}
use Rattle.report_io.specs.IndentedLines.{is_indented}
use Rattle.report_io.specs.Reasons.{unended_reason}
use Rattle.report_io.specs.Streams.{Reads}
use Rattle.report_io.specs.Takings.{Among, AtLine, Writes, WritesFirst}
use Rattle.script_labels.specs.Names.{Names}
use Rattle.sm_script.specs.Runs.{IsWhy}
use Rattle.sm_script.specs.Scenes.{Scene, Setting}
use Rattle.event_texts.specs.EventLines.{IsEventOf}
use Rattle.picture_model.specs.declared.picture_state.PictureState.{PictureState}
use Rattle.picture_model.specs.declared.picture.Picture.{Picture}
use Rattle.picture_model.specs.PictureStates.{HasSeen, KnowsKept, known_in}
use Rattle.picture_model.specs.Shown.{ShowsEvent, ShowsKept}
use Rattle.report_io.specs.declared.view.Format.{Format}
use Rattle.report_io.specs.declared.view.View.{View}
use Rattle.report_io.specs.declared.view.Until.{Until}
use Rattle.script_draw.specs.Played.{LeadsToScene, WasAhead, asked_number, found, wanted}
use Rattle.picture_dot.specs.DotPictures.{dot_text}
use Rattle.picture_svg.specs.SvgPictures.{svg_text}
use Rattle.picture_text.specs.TextPictures.{picture_text}

-- the picture in this format, where the last event has this line
abbrev pub picture_in : Format → State → Names → List ℕ → Picture → List ℕ
picture_in Format.Text s names last p = picture_text s names last p.trees.items
picture_in Format.Dot s names last p = dot_text s names last p.trees.items p.travels.items
picture_in Format.Svg s names last p = svg_text s names last p

-- the text is the picture, in this format, of a core in this state behind the last event of this history, which is this one, where
-- labels stand for this: it shows what the picture state knows that has seen the history. That knows each node that the core
-- keeps, so that none of these is missing
pub record IsPicture (format : Format) (s : State) (history : List Entry) (names : Names) (last : List ℕ) (event : Option Event)
    (text : List ℕ) : Type 0 where
  pub picture_state : PictureState
  pub seen : HasSeen s.pool history (known_in picture_state)
  pub knows : KnowsKept s picture_state
  pub picture : Picture
  pub shows : ShowsEvent s names picture_state event picture
  pub kept : ShowsKept s picture.trees.items
  pub text_is : text ≡ picture_in format s names last picture

-- the event is that of the last call of the history
pub record IsOfLast (pool : ℕ) (history : List Entry) (event : Event) : Type 0 where
  pub before : State
  pub pool_is : before.pool ≡ pool
  pub earlier : List Entry
  pub shows : Shows before earlier
  pub client : ℕ
  pub call : Call
  pub is : IsEventOf before client call event
  pub whole : history ≡ earlier ++ (client, call, event.reply) ∷ []

-- there is one, if something happened
abbrev pub IsLast : ℕ → List Entry → Option Event → Type 0
IsLast pool history None = history ≡ []
IsLast pool history (Some event) = IsOfLast pool history event

-- the text is a picture of what happened so far: that of a core that shows this history, behind its last event
pub record Pictures (format : Format) (setting : Setting) (scene : Scene) (last text : List ℕ) : Type 0 where
  pub core : State
  pub shows : Shows core scene.history
  pub pool : core.pool ≡ setting.pool
  pub event : Option Event
  pub behind : IsLast setting.pool scene.history event
  pub picture : IsPicture format core scene.history scene.names last event text

-- a picture of what happened so far was written; or a first part of one, or nothing
abbrev pub PictureTold : Format → Setting → Scene → List ℕ → Option (List ℕ) → Option (List ℕ) → Result (Unit {0}) ReportFault → Type 0
PictureTold format setting scene last old new result = MatchResult result (λ _. Writes (Pictures format setting scene last) old new)
    (λ fault. (IsWriteFault fault × WritesFirst (Pictures format setting scene last) old new)
    ⊎ ((fault ≡ ReportFault.NoMemory) × Keeps old new))

-- these are all lines of the script, or have as many of what is sought as are asked for
abbrev pub AreAll : Option ℕ → List ℕ → List (List ℕ) → ℕ → Type 0
AreAll None script lines count = (lines ≡ whole_lines script) × (last_part script ≡ [])
AreAll (Some number) script lines count = (count ≡ number) × (0 < number)

-- these lines were played, those up to the first that reaches what is asked for, and a picture of what they lead to was written
pub record IsDrawn (setting : Setting) (view : View) (old new : Option (List ℕ)) (script : List ℕ) : Type 0 where
  pub lines : List (List ℕ)
  pub after : List (List ℕ)
  pub split : whole_lines script ≡ lines ++ after
  pub scene : Scene
  pub last : List ℕ
  pub reaches : LeadsToScene setting lines scene last
  pub all : AreAll (asked_number view.until) script lines (found view.until setting.pool lines scene)
  pub soonest : WasAhead view.until setting.pool lines scene last reaches.played
  pub pictured : Writes (Pictures view.format setting scene last) old new

-- these lines lead to a scene, behind a last event's line, of which this holds
pub record Leads (setting : Setting) (At : Scene → List ℕ → Type 0) (lines : List (List ℕ)) : Type 0 where
  pub scene : Scene
  pub last : List ℕ
  pub reaches : LeadsToScene setting lines scene last
  pub at : At scene last

-- what is written where a line could not be played: the picture of what the lines before it lead to; nothing where those lines
-- have fewer of what is sought than are asked for
abbrev pub PictureBefore : Option ℕ → ℕ → Format → Setting → Scene → List ℕ → Option (List ℕ) → Option (List ℕ) → Type 0
PictureBefore None count format setting scene last old new = Writes (Pictures format setting scene last) old new
PictureBefore (Some number) count format setting scene last old new = (count < number) × Keeps old new

-- the same of these lines and of what they lead to
abbrev pub IsLeftOf : Setting → View → Option (List ℕ) → Option (List ℕ) → List (List ℕ) → Scene → List ℕ → Type 0
IsLeftOf setting view old new lines scene last =
    PictureBefore (asked_number view.until) (found view.until setting.pool lines scene) view.format setting scene last old new

-- a line was not played for this reason, and all before it were
abbrev pub IsUnplayed : Setting → View → Option (List ℕ) → Option (List ℕ) → List ℕ → ReportFault → Type 0
IsUnplayed setting view old new script fault = AtLine (λ before line. (is_indented line ≡ false)
    × Leads setting (λ scene last. IsWhy setting scene line (length before + 1) fault × IsLeftOf setting view old new before scene last) before)
    (whole_lines script)

-- the last line has no end, and all others were played
abbrev pub IsUnended : Setting → View → Option (List ℕ) → Option (List ℕ) → List ℕ → ReportFault → Type 0
IsUnended setting view old new script fault = (last_part script ≢ []) × IsBadLine (length (whole_lines script) + 1) fault
    × HasReason unended_reason fault × Leads setting (IsLeftOf setting view old new (whole_lines script)) (whole_lines script)

-- what is asked for is not there: it has the number 0, or one behind the last
pub record IsMissing (setting : Setting) (view : View) (old new : Option (List ℕ)) (script : List ℕ) (sought : Sought) (number : ℕ) : Type 0
  where
    pub asked : wanted view.until ≡ Some (sought, number)
    pub none : (number ≡ 0) ⊎ ((last_part script ≡ [])
        × Leads setting (λ scene last. found view.until setting.pool (whole_lines script) scene < number) (whole_lines script))
    pub kept : Keeps old new

-- why no picture was drawn, or one of some first lines
abbrev pub PictureStops : Setting → View → Option (List ℕ) → Option (List ℕ) → List ℕ → ReportFault → Type 0
PictureStops setting view old new script (ReportFault.WriteFault failed) =
    Among (Leads setting (λ scene last. WritesFirst (Pictures view.format setting scene last) old new)) (whole_lines script)
PictureStops setting view old new script (ReportFault.BadLine n reason) =
    IsUnplayed setting view old new script (ReportFault.BadLine n reason)
    ⊎ IsUnended setting view old new script (ReportFault.BadLine n reason)
PictureStops setting view old new script ReportFault.HistoryFull = IsUnplayed setting view old new script ReportFault.HistoryFull
PictureStops setting view old new script ReportFault.NoMemory = Keeps old new
PictureStops setting view old new script (ReportFault.Missing sought number) = IsMissing setting view old new script sought number
PictureStops setting view old new script _ = ⊥

-- what came of a script that was read
abbrev pub LinesDrawn : Setting → View → Option (List ℕ) → Option (List ℕ) → List ℕ → Result (Unit {0}) ReportFault → Type 0
LinesDrawn setting view old new script result =
    MatchResult result (λ _. IsDrawn setting view old new script) (PictureStops setting view old new script)

-- a script was read, and a picture was drawn
abbrev pub Draws : Setting → View → Option (List ℕ) → Option (List ℕ) → Option (List ℕ) → Option (List ℕ) →
    Result (Unit {0}) ReportFault → Type 0
Draws setting view left_before left old new result = Reads (LinesDrawn setting view old new) left_before left old new result

-- a script was drawn, with this outcome: the status is its status, and its fault, if there is one, was told
abbrev pub EndsDrawn : Setting → View → Option (List ℕ) → Option (List ℕ) → Option (List ℕ) → Option (List ℕ) →
    Option (List ℕ) → Option (List ℕ) → ℕ → Type 0
EndsDrawn setting view left_before left old new told_before told status =
    EndsReport (Draws setting view left_before left old new) told_before told status
