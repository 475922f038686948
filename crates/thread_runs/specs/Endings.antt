-- What a program that runs actors leaves.
use Rattle.std.specs.Prelude.{◌≡◌, ◌⊎◌, ℕ, List, [], ◌∷◌, ◌++◌, Option, Ok, Err, Result, MatchResult, Vec}
use Rattle.std.specs.Io.KnownBytes.{Consumes}
use Rattle.std.specs.declared.alloc.Global.{Global}
use Rattle.sm_names.specs.declared.rules.TheConstants.{MAX_COLLECTIONS, MAX_EVENTS, MAX_HANDLES, MAX_NODES, MAX_TRACKERS}
use Rattle.sm_names.specs.Bounds.{Bound}
use Rattle.script_lines.specs.Written.{WritesPart}
use Rattle.script_lines.specs.declared.writing.WriteFault.{WriteFault}
use Rattle.report_io.specs.declared.fault.ReportFault.{ReportFault}
use Rattle.report_io.specs.ActorReasons.{reason_at}
use Rattle.report_io.specs.Faults.{IsTold}
use Rattle.report_io.specs.Streams.{Came, CameBeyond}
use Rattle.thread_runs.specs.declared.fault.ThreadsFault.{ThreadsFault}
use Rattle.thread_runs.specs.declared.job.Output.{Output}
use Rattle.thread_runs.specs.Faults.{threads_fault_status, threads_fault_text}
use Rattle.thread_runs.specs.Runs.{RunsThreads}

-- the status that the program ends with: 0 where all was written
abbrev pub outcome_status : Result (Unit {0}) ThreadsFault → ℕ
outcome_status (Ok done) = 0
outcome_status (Err fault) = threads_fault_status fault

-- the script could not be read, or is too long, which is told
abbrev pub IsUnreadTold : Option (List ℕ) → Option (List ℕ) → Option (List ℕ) → Option (List ℕ) → Type 0
IsUnreadTold left_before left before after = Came left_before left × IsTold before after ReportFault.ReadFault
    ⊎ CameBeyond left_before left × IsTold before after ReportFault.TooLong

-- the line of this number is the first bad one of the script, which is told with the reason
abbrev pub IsBadTold : List ℕ → ℕ → Option (List ℕ) → Option (List ℕ) → Type 0
IsBadTold script number before after = (reason : Vec ℕ Global) × (reason.items ≡ reason_at script number)
    × IsTold before after (ReportFault.BadLine number reason)

-- the fault is told by its text, in one line
abbrev pub IsTextTold : ThreadsFault → Option (List ℕ) → Option (List ℕ) → Type 0
IsTextTold fault before after = WritesPart before after (threads_fault_text fault ++ 10 ∷ [])

-- the fault is told, as far as it could be
abbrev pub IsFaultTold : Option (List ℕ) → Option (List ℕ) → Option (List ℕ) → Option (List ℕ) → ThreadsFault → Type 0
IsFaultTold left_before left before after ThreadsFault.ReadFault = IsUnreadTold left_before left before after
IsFaultTold left_before left before after ThreadsFault.WriteFault =
    (failed : WriteFault) × IsTold before after (ReportFault.WriteFault failed)
IsFaultTold left_before left before after (ThreadsFault.BadLine number) =
    (script : List ℕ) × Consumes left_before left script × IsBadTold script number before after
IsFaultTold left_before left before after fault = IsTextTold fault before after

-- a run whose script was read told nothing of its actors, for this fault, and ended with this status: memory may be refused for the
-- reason of a bad line
abbrev pub EndsUntold : List ℕ → ThreadsFault → Option (List ℕ) → Option (List ℕ) → ℕ → Type 0
EndsUntold script (ThreadsFault.BadLine number) before after status = (IsBadTold script number before after × (status ≡ 3))
    ⊎ (IsTextTold ThreadsFault.NoMemory before after × (status ≡ 4))
EndsUntold script fault before after status = IsTextTold fault before after × (status ≡ threads_fault_status fault)

-- the limits that a program sets: the greatest
abbrev pub program_limits : Bound
program_limits = record {
  events = MAX_EVENTS;
  nodes = MAX_NODES;
  collections = MAX_COLLECTIONS;
  trackers = MAX_TRACKERS;
  handles =
      MAX_HANDLES;
}

-- actors were run with a pool of this many pages: the outcome is that of the status, and was told as far as it could be
pub record EndsThreads (output : Output) (repeats pages : ℕ) (left_before left old new faults_before faults : Option (List ℕ))
    (status : ℕ) : Type 0 where
  pub outcome : Result (Unit {0}) ThreadsFault
  pub runs : RunsThreads output repeats pages program_limits left_before left old new outcome
  pub status_is : status ≡ outcome_status outcome
  pub told : MatchResult outcome (λ _. faults ≡ faults_before) (IsFaultTold left_before left faults_before faults)
