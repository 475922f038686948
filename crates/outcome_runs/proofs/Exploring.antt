-- How a search through a script ends.
use Rattle.std.proofs.Common.{ℕ, ◌≤◌, List, length, Option, Ok, Err, Result}
use Rattle.std.proofs.KnownBytes.{Keeps-refl}
use Rattle.std.specs.Prelude.{IfOk, IfErr}
use Rattle.std.specs.Io.KnownBytes.{Consumes, IsAtEnd}
use Rattle.script_lines.specs.declared.TheConstants.{MOST_BYTES}
use Rattle.report_io.specs.declared.fault.ReportFault.{ReportFault}
use Rattle.report_io.specs.Streams.{IsUnread}
use Rattle.outcome_runs.specs.declared.job.Ending.{Ending}
use Rattle.outcome_runs.specs.declared.job.SearchJob.{SearchJob}
use Rattle.outcome_runs.specs.Searches.{IsUntold}
use Rattle.outcome_runs.specs.Explored.{Explores, IsExplored, TellingStops}

-- nothing was written where nothing is told
pub stopped_same : (job : SearchJob) (old : Option (List ℕ)) (script : List ℕ) (fault : ReportFault) → IsUntold job script fault →
    TellingStops job old old script fault
stopped_same job old script ReportFault.ReadFault why = Keeps-refl old
stopped_same job old script ReportFault.TooLong why = absurd why
stopped_same job old script (ReportFault.WriteFault fault) why = absurd why
stopped_same job old script (ReportFault.BadLine n reason) why = (why, Keeps-refl old)
stopped_same job old script ReportFault.HistoryFull why = Keeps-refl old
stopped_same job old script ReportFault.NoMemory why = Keeps-refl old
stopped_same job old script (ReportFault.Missing sought n) why = absurd why

module _ (job : SearchJob) (left_before left old : Option (List ℕ)) where
  -- the script did not come in
  pub explores_unread : (fault : ReportFault) → IsUnread left_before left fault → Explores job left_before left old old (Err fault)
  explores_unread ReportFault.ReadFault came = record { script = came.bytes; taken = came.taken; outcome = (came.within, Keeps-refl old) }
  explores_unread ReportFault.TooLong came = record { script = came.bytes; taken = came.taken; outcome = (came.beyond, Keeps-refl old) }
  explores_unread ReportFault.NoMemory came = record { script = came.bytes; taken = came.taken; outcome = Keeps-refl old }
  explores_unread (ReportFault.WriteFault fault) came = absurd came
  explores_unread (ReportFault.BadLine n reason) came = absurd came
  explores_unread ReportFault.HistoryFull came = absurd came
  explores_unread (ReportFault.Missing sought n) came = absurd came

  module _ (new : Option (List ℕ)) (script : List ℕ) (taken : Consumes left_before left script) (end : IsAtEnd left)
      (within : length script ≤ MOST_BYTES) where
    -- it came in whole, and not all was told of it
    explores_stopped : (fault : ReportFault) → TellingStops job old new script fault → Explores job left_before left old new (Err fault)
    explores_stopped ReportFault.ReadFault stop = record { script = script; taken = taken; outcome = (within, stop) }
    explores_stopped ReportFault.TooLong stop = absurd stop
    explores_stopped (ReportFault.Missing sought n) stop = absurd stop
    explores_stopped (ReportFault.WriteFault fault) stop = record { script = script; taken = taken; outcome = (end, stop) }
    explores_stopped (ReportFault.BadLine n reason) stop = record { script = script; taken = taken; outcome = (end, stop) }
    explores_stopped ReportFault.HistoryFull stop = record { script = script; taken = taken; outcome = (end, stop) }
    explores_stopped ReportFault.NoMemory stop = record { script = script; taken = taken; outcome = stop }

    -- it came in whole, and was told of
    pub explores_told : (result : Result Ending ReportFault) → IfOk result (IsExplored job old new script) →
        IfErr result (TellingStops job old new script) → Explores job left_before left old new result
    explores_told (Ok ending) told stop = record { script = script; taken = taken; outcome = (end, within, told) }
    explores_told (Err fault) told stop = explores_stopped fault stop
