-- What a search through the orders of a script leaves.
use Rattle.std.specs.Prelude.{ℕ, ◌<◌, ◌≤◌, List, length, Option, Result, MatchResult}
use Rattle.std.specs.Io.KnownBytes.{Appends, Consumes, IsAtEnd, Keeps}
use Rattle.script_lines.specs.declared.TheConstants.{MOST_BYTES}
use Rattle.script_lines.specs.Written.{WritesPart}
use Rattle.report_io.specs.declared.fault.ReportFault.{ReportFault}
use Rattle.outcome_runs.specs.declared.job.Ending.{Ending}
use Rattle.outcome_runs.specs.declared.job.SearchJob.{SearchJob}
use Rattle.outcome_runs.specs.Searches.{IsBadOf, IsTold}

-- what is told of the script was written
pub record IsExplored (job : SearchJob) (old new : Option (List ℕ)) (script : List ℕ) (ending : Ending) : Type 0 where
  pub text : List ℕ
  pub told : IsTold job script text ending
  pub written : Appends old new text

-- a first part of that was written
pub record IsCutOff (job : SearchJob) (old new : Option (List ℕ)) (script : List ℕ) : Type 0 where
  pub text : List ℕ
  pub ending : Ending
  pub told : IsTold job script text ending
  pub written : WritesPart old new text

-- why a script that was read is not told of to its end
abbrev pub TellingStops : SearchJob → Option (List ℕ) → Option (List ℕ) → List ℕ → ReportFault → Type 0
TellingStops job old new script ReportFault.ReadFault = Keeps old new
TellingStops job old new script (ReportFault.WriteFault fault) = IsCutOff job old new script
TellingStops job old new script (ReportFault.BadLine number reason) = IsBadOf job script number reason.items × Keeps old new
TellingStops job old new script ReportFault.HistoryFull = Keeps old new
TellingStops job old new script ReportFault.NoMemory = Keeps old new
TellingStops job old new script _ = ⊥

-- the same, where these bytes were read: no line is judged before all are read
abbrev pub ExploringStops : SearchJob → Option (List ℕ) → Option (List ℕ) → Option (List ℕ) → List ℕ → ReportFault → Type 0
ExploringStops job left old new script ReportFault.ReadFault = (length script ≤ MOST_BYTES) × Keeps old new
ExploringStops job left old new script ReportFault.TooLong = (MOST_BYTES < length script) × Keeps old new
ExploringStops job left old new script ReportFault.NoMemory = Keeps old new
ExploringStops job left old new script fault = IsAtEnd left × TellingStops job old new script fault

-- these bytes were read, and the orders of the script were gone through. Where something is told they are all that there is
pub record Explores (job : SearchJob) (left_before left old new : Option (List ℕ)) (result : Result Ending ReportFault) : Type 0 where
  pub script : List ℕ
  pub taken : Consumes left_before left script
  pub outcome : MatchResult result
      (λ ending. IsAtEnd left × (length script ≤ MOST_BYTES) × IsExplored job old new script ending)
      (ExploringStops job left old new script)
