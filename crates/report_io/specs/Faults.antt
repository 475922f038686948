-- The statuses and the texts of faults, and why a line has one.
use Rattle.std.specs.Prelude.{ℕ, ◌≡◌, ◌≢◌, Bool, true, false, List, [], ◌∷◌, ◌++◌, codes, decimal, Option, Ok, Err, Result, MatchResult, ◌⊎◌, ⊤}
use Rattle.script_lines.specs.Written.{WritesPart}
use Rattle.script_labels.specs.declared.stop.LineStop.{LineStop}
use Rattle.script_labels.specs.Names.{Names}
use Rattle.report_io.specs.declared.fault.ReportFault.{ReportFault}
use Rattle.report_io.specs.declared.fault.Sought.{Sought}
use Rattle.report_io.specs.Reasons.{IsReason}

-- the status that a program ends with: 1 for the streams, 2 for what is not there, 3 for the script, 4 for want of
-- memory or of room in the history
abbrev pub fault_status : ReportFault → ℕ
fault_status ReportFault.ReadFault = 1
fault_status ReportFault.TooLong = 1
fault_status (ReportFault.WriteFault fault) = 1
fault_status (ReportFault.BadLine number reason) = 3
fault_status ReportFault.HistoryFull = 4
fault_status ReportFault.NoMemory = 4
fault_status (ReportFault.Missing sought number) = 2

-- what is sought, in words
abbrev pub sought_name : Sought → List ℕ
sought_name Sought.Event = codes "event "
sought_name Sought.Line = codes "line "
sought_name Sought.Failure = codes "failure "

-- what a fault is told as
abbrev pub fault_text : ReportFault → List ℕ
fault_text ReportFault.ReadFault = codes "read fault"
fault_text ReportFault.TooLong = codes "the script is longer than 16777216 bytes"
fault_text (ReportFault.WriteFault fault) = codes "write fault"
fault_text (ReportFault.BadLine number reason) = codes "bad line " ++ decimal number ++ codes ": " ++ reason.items
fault_text ReportFault.HistoryFull = codes "history full"
fault_text ReportFault.NoMemory = codes "no memory"
fault_text (ReportFault.Missing sought number) = codes "there is no " ++ sought_name sought ++ decimal number

-- what the line of a fault begins with: the program's name, unless `run` has a line for the same fault
abbrev pub fault_start : ReportFault → List ℕ
fault_start ReportFault.TooLong = codes "sysmem: "
fault_start (ReportFault.Missing sought number) = codes "sysmem: "
fault_start _ = []

-- the line of the fault, with its end
abbrev pub fault_line : ReportFault → List ℕ
fault_line fault = fault_start fault ++ fault_text fault ++ 10 ∷ []

-- the line of the fault was written, as far as it could be, or that of refused memory
abbrev pub IsTried : Option (List ℕ) → Option (List ℕ) → ReportFault → Type 0
IsTried before after fault = WritesPart before after (fault_line fault) ⊎ WritesPart before after (fault_line ReportFault.NoMemory)

-- the writer failed, or took nothing
abbrev pub IsWriteFault : ReportFault → Type 0
IsWriteFault (ReportFault.WriteFault fault) = ⊤
IsWriteFault _ = ⊥

-- nothing is told of the fault: nobody reads any more what the program writes
abbrev pub is_silent : ReportFault → Bool
is_silent (ReportFault.WriteFault fault) = fault.is_reader_gone
is_silent _ = false

-- the fault was told, unless nothing is told of it
abbrev pub IsToldUnless : Bool → Option (List ℕ) → Option (List ℕ) → ReportFault → Type 0
IsToldUnless true before after fault = after ≡ before
IsToldUnless false before after fault = IsTried before after fault

-- the fault was told, as far as it could be
abbrev pub IsTold : Option (List ℕ) → Option (List ℕ) → ReportFault → Type 0
IsTold before after fault = IsToldUnless (is_silent fault) before after fault

-- without a fault nothing was told
abbrev pub IsReported : {A : Type 0} → Option (List ℕ) → Option (List ℕ) → Result A ReportFault → Type 0
IsReported before after result = MatchResult result (λ _. after ≡ before) (IsTold before after)

-- the status that a program ends with: 0 where the report was made
abbrev pub report_status : Result (Unit {0}) ReportFault → ℕ
report_status (Ok done) = 0
report_status (Err fault) = fault_status fault

-- a report was made, with an outcome of which this holds: the status is its status, and its fault, if there is one, was told
pub record EndsReport (Comes : Result (Unit {0}) ReportFault → Type 0) (told_before told : Option (List ℕ)) (status : ℕ) : Type 0 where
  pub outcome : Result (Unit {0}) ReportFault
  pub comes : Comes outcome
  pub status_is : status ≡ report_status outcome
  pub reported : IsReported told_before told outcome

-- the fault of the line of this number, which stopped so. Memory for the reason of a bad line may be refused
abbrev pub IsFaultOf : ℕ → LineStop → ReportFault → Type 0
IsFaultOf number stop (ReportFault.BadLine n reason) = (stop ≡ LineStop.BadLine) × (n ≡ number)
IsFaultOf number stop ReportFault.HistoryFull = stop ≡ LineStop.HistoryFull
IsFaultOf number stop ReportFault.NoMemory = stop ≢ LineStop.HistoryFull
IsFaultOf number stop _ = ⊥

-- the line of this number is bad. Memory for the reason may be refused
abbrev pub IsBadLine : ℕ → ReportFault → Type 0
IsBadLine number (ReportFault.BadLine n reason) = n ≡ number
IsBadLine number ReportFault.NoMemory = ⊤
IsBadLine number _ = ⊥

-- the fault of a bad line gives these words as the reason
abbrev pub HasReason : List ℕ → ReportFault → Type 0
HasReason words (ReportFault.BadLine n reason) = reason.items ≡ words
HasReason words _ = ⊤

-- the fault of a bad line gives the reason of this line, where labels stand for these
abbrev pub GivesReason : Names → List ℕ → ReportFault → Type 0
GivesReason names line (ReportFault.BadLine n reason) = IsReason names line reason.items
GivesReason names line _ = ⊤
