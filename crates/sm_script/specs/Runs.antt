-- What a run of a script leaves.
use Rattle.std.specs.Prelude.{◌≡◌, ◌≢◌, ◌⊎◌, ℕ, ◌+◌, ◌≤◌, List, [], ◌∷◌, ◌++◌, length, Option, Some, None, Result, MatchResult, ⊤}
use Rattle.std.specs.Io.KnownBytes.{Appends, Consumes, IsAtEnd}
use Rattle.sm_names.specs.declared.messages.Call.{Call}
use Rattle.sm_names.specs.Marks.{events}
use Rattle.sm_names.specs.Timelines.{timeline}
use Rattle.script_labels.specs.declared.act.Act.{Act}
use Rattle.script_labels.specs.declared.act.Binds.{Binds}
use Rattle.report_io.specs.declared.fault.ReportFault.{ReportFault}
use Rattle.report_io.specs.Reasons.{IsReason, unended_reason}
use Rattle.sm_script.specs.declared.fault.ScriptFault.{ScriptFault}
use Rattle.sm_script.specs.Faults.{script_result}
use Rattle.script_lines.specs.declared.TheConstants.{MOST_BYTES}
use Rattle.script_labels.specs.Names.{act_in}
use Rattle.script_lines.specs.Written.{WritesPart}
use Rattle.script_lines.specs.Pieces.{whole_lines, last_part}
use Rattle.sm_script.specs.Scenes.{Scene, Setting, LeadsTo}

-- what was written is the text of exactly these lines, all of them good
pub record IsTold (setting : Setting) (old new : Option (List ℕ)) (lines : List (List ℕ)) : Type 0 where
  pub texts : List ℕ
  pub scene : Scene
  pub leads : LeadsTo setting lines texts scene
  pub written : Appends old new texts

-- what was written is a first part of the text of some first lines
pub record IsCutOff (setting : Setting) (old new : Option (List ℕ)) (lines : List (List ℕ)) : Type 0 where
  pub before : List (List ℕ)
  pub after : List (List ℕ)
  pub split : lines ≡ before ++ after
  pub texts : List ℕ
  pub scene : Scene
  pub leads : LeadsTo setting before texts scene
  pub written : WritesPart old new texts

-- the line makes a call, and as many events were made as may be
pub record IsUnkept (setting : Setting) (scene : Scene) (line : List ℕ) : Type 0 where
  pub client : ℕ
  pub call : Call
  pub binds : Binds
  pub asks : act_in scene.names line ≡ Some (Act.Ask client call binds)
  pub full : setting.limits.events ≤ events (timeline setting.pool scene.history)

-- why a line, the one of this number, was not answered: it is bad, for this reason, or the history is full. Memory may be refused at
-- any line, and the other faults are not a line's
abbrev pub IsWhy : Setting → Scene → List ℕ → ℕ → ReportFault → Type 0
IsWhy setting scene line number (ReportFault.BadLine n reason) =
    (act_in scene.names line ≡ None) × (n ≡ number) × IsReason scene.names line reason.items
IsWhy setting scene line number ReportFault.HistoryFull = IsUnkept setting scene line
IsWhy setting scene line number ReportFault.NoMemory = ⊤
IsWhy setting scene line number _ = ⊥

-- a line was not answered, and what was written is the text of exactly the lines before it
pub record IsUnanswered (setting : Setting) (old new : Option (List ℕ)) (lines : List (List ℕ)) (fault : ReportFault) : Type 0 where
  pub before : List (List ℕ)
  pub line : List ℕ
  pub after : List (List ℕ)
  pub split : lines ≡ before ++ line ∷ after
  pub texts : List ℕ
  pub scene : Scene
  pub leads : LeadsTo setting before texts scene
  pub why : IsWhy setting scene line (length before + 1) fault
  pub written : Appends old new texts

-- these lines could not all be answered; no read fails among them
abbrev pub Stopped : Setting → Option (List ℕ) → Option (List ℕ) → List (List ℕ) → ReportFault → Type 0
Stopped setting old new lines (ReportFault.WriteFault fault) = IsCutOff setting old new lines
Stopped setting old new lines (ReportFault.BadLine n reason) = IsUnanswered setting old new lines (ReportFault.BadLine n reason)
Stopped setting old new lines ReportFault.HistoryFull = IsUnanswered setting old new lines ReportFault.HistoryFull
Stopped setting old new lines ReportFault.NoMemory = IsUnanswered setting old new lines ReportFault.NoMemory
Stopped setting old new lines _ = ⊥

-- the last line has no end, and all others were answered
pub record IsUnended (setting : Setting) (left old new : Option (List ℕ)) (script : List ℕ) (number : ℕ) (reason : List ℕ) : Type 0 where
  pub at_end : IsAtEnd left
  pub unended : last_part script ≢ []
  pub numbered : number ≡ length (whole_lines script) + 1
  pub reasoned : reason ≡ unended_reason
  pub told : IsTold setting old new (whole_lines script)

-- memory was refused where no whole line was at hand: before anything was read, or for the front of the last line or for what is
-- told of it. What was written is the text of exactly the whole lines that were read
pub record IsBetween (setting : Setting) (old new : Option (List ℕ)) (script : List ℕ) : Type 0 where
  pub place : (script ≡ []) ⊎ (last_part script ≢ [])
  pub told : IsTold setting old new (whole_lines script)

-- how a run that read this script stopped, by its fault
abbrev pub RunStops : Setting → Option (List ℕ) → Option (List ℕ) → Option (List ℕ) → List ℕ → ReportFault → Type 0
RunStops setting left old new script ReportFault.ReadFault = IsTold setting old new (whole_lines script)
RunStops setting left old new script ReportFault.TooLong = IsTold setting old new (whole_lines script)
RunStops setting left old new script (ReportFault.BadLine n reason) =
    Stopped setting old new (whole_lines script) (ReportFault.BadLine n reason) ⊎ IsUnended setting left old new script n reason.items
RunStops setting left old new script ReportFault.NoMemory =
    Stopped setting old new (whole_lines script) ReportFault.NoMemory ⊎ IsBetween setting old new script
RunStops setting left old new script fault = Stopped setting old new (whole_lines script) fault

-- bytes beyond the greatest size of a script were read if it is too long, and none if a read failed
abbrev pub IsBeyond : List ℕ → ReportFault → Type 0
IsBeyond beyond ReportFault.ReadFault = beyond ≡ []
IsBeyond beyond ReportFault.TooLong = beyond ≢ []
IsBeyond beyond _ = ⊤

-- a run read a script, and maybe bytes beyond its greatest size, and wrote what its lines ask for. Without a fault it read
-- all there is, and the text of all lines was written
pub record Runs (setting : Setting) (left_before left old new : Option (List ℕ)) (result : Result (Unit {0}) ReportFault) : Type 0 where
  pub script : List ℕ
  pub beyond : List ℕ
  pub taken : Consumes left_before left (script ++ beyond)
  pub within : length script ≤ MOST_BYTES
  pub full : beyond ≢ [] → length script ≡ MOST_BYTES
  pub outcome : MatchResult result
      (λ _. IsAtEnd left × (beyond ≡ []) × (last_part script ≡ []) × IsTold setting old new (whole_lines script))
      (λ fault. IsBeyond beyond fault × RunStops setting left old new script fault)

-- the same, where the outcome is answered without the reason of a bad line
pub record RunsScript (setting : Setting) (left_before left old new : Option (List ℕ)) (result : Result (Unit {0}) ScriptFault) : Type 0 where
  pub told : Result (Unit {0}) ReportFault
  pub runs : Runs setting left_before left old new told
  pub is : result ≡ script_result told
