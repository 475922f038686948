-- What a program that explores leaves.
use Rattle.std.specs.Prelude.{ℕ, ◌≡◌, ◌⊎◌, List, [], ◌∷◌, ◌++◌, codes, decimal, Option, Some, None, Ok, Err, Result, MatchResult}
use Rattle.script_lines.specs.Written.{WritesPart}
use Rattle.report_io.specs.declared.fault.ReportFault.{ReportFault}
use Rattle.report_io.specs.Faults.{IsTold, fault_line, fault_status}
use Rattle.outcome_texts.specs.Reasons.{fault_words}
use Rattle.outcome_texts.specs.declared.reasons.ClaimFault.{ClaimFault}
use Rattle.outcome_runs.specs.declared.job.DoubtLine.{DoubtLine}
use Rattle.outcome_runs.specs.declared.job.Ending.{Ending}
use Rattle.outcome_runs.specs.declared.job.SearchJob.{SearchJob}
use Rattle.outcome_runs.specs.Explored.{Explores}

-- the status that the program ends with: 0 where all orders were gone through, 7 where not, or where the search was to certify and
-- did not, 6 where a claim does not hold, 2 where there is no such outcome or client, 5 where a play was unlike itself
abbrev pub exploring_status : Result Ending ReportFault → ℕ
exploring_status (Ok Ending.Whole) = 0
exploring_status (Ok Ending.Part) = 7
exploring_status (Ok (Ending.Unsure doubt)) = 7
exploring_status (Ok (Ending.Broken doubt)) = 6
exploring_status (Ok Ending.Missing) = 2
exploring_status (Ok (Ending.Unknown fault)) = 2
exploring_status (Ok Ending.Unlike) = 5
exploring_status (Err fault) = fault_status fault

-- what is told where there is no outcome of this number
abbrev pub missing_line : Option ℕ → List ℕ
missing_line None = []
missing_line (Some number) = codes "sysmem: there is no outcome " ++ decimal number ++ 10 ∷ []

-- what is told where this is wrong with the list of the clients that may vanish
abbrev pub unknown_line : ClaimFault → List ℕ
unknown_line fault = codes "sysmem: --vanish: " ++ fault_words fault ++ 10 ∷ []

-- it was told, as far as it could be, or that memory was refused
abbrev pub IsUnknownTold : Option (List ℕ) → Option (List ℕ) → ClaimFault → Type 0
IsUnknownTold before after fault = WritesPart before after (unknown_line fault) ⊎ WritesPart before after (fault_line ReportFault.NoMemory)

-- what is told where a play that was made again went on otherwise
abbrev pub unlike_line : List ℕ
unlike_line = codes "explore: a play went on otherwise" ++ 10 ∷ []

-- where not all orders were gone through
abbrev pub part_line : List ℕ
part_line = codes "sysmem: not all explored: try a larger --states" ++ 10 ∷ []

-- where a search was to certify and did not, why
abbrev pub doubt_text : DoubtLine → List ℕ
doubt_text DoubtLine.Incomplete = codes "sysmem: not certified: not all explored: try a larger --states"
doubt_text DoubtLine.Costly = codes "sysmem: not certified: too many calls to repeat: try a larger --states"
doubt_text (DoubtLine.Step calls line) = codes "sysmem: not certified: after " ++
    (decimal calls ++ (codes " calls line " ++ (decimal line ++ codes " leads to a state that was not met")))
doubt_text (DoubtLine.Leave calls) = codes "sysmem: not certified: after " ++ decimal calls
    ++ codes " calls a client that vanishes leads to a state that was not met"
doubt_text (DoubtLine.Outcome calls) = codes "sysmem: not certified: a schedule of " ++ decimal calls
    ++ codes " calls does not end as its outcome says"

-- the same as a line
abbrev pub doubt_line : DoubtLine → List ℕ
doubt_line doubt = doubt_text doubt ++ 10 ∷ []

-- the line was told, if there is a reason
abbrev pub IsDoubtTold : Option (List ℕ) → Option (List ℕ) → Option DoubtLine → Type 0
IsDoubtTold before after None = after ≡ before
IsDoubtTold before after (Some doubt) = WritesPart before after (doubt_line doubt)

-- nothing was told of faults where all is well
abbrev pub IsTellingOf : SearchJob → Option (List ℕ) → Option (List ℕ) → Ending → Type 0
IsTellingOf job before after Ending.Part = WritesPart before after part_line
IsTellingOf job before after (Ending.Unsure doubt) = WritesPart before after (doubt_line doubt)
IsTellingOf job before after (Ending.Broken doubt) = IsDoubtTold before after doubt
IsTellingOf job before after Ending.Missing = WritesPart before after (missing_line job.outcome)
IsTellingOf job before after (Ending.Unknown fault) = IsUnknownTold before after fault
IsTellingOf job before after Ending.Unlike = WritesPart before after unlike_line
IsTellingOf job before after Ending.Whole = after ≡ before

-- a script was explored, with this outcome: the status is its status, and its fault, if there is one, was told
pub record EndsExplored (job : SearchJob) (left_before left old new told_before told : Option (List ℕ)) (status : ℕ) : Type 0 where
  pub outcome : Result Ending ReportFault
  pub explores : Explores job left_before left old new outcome
  pub status_is : status ≡ exploring_status outcome
  pub reported : MatchResult outcome (IsTellingOf job told_before told) (IsTold told_before told)
