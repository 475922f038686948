-- What comes of comparing a transcript.
use Rattle.std.specs.Prelude.{◌≡◌, ◌≢◌, ◌⊎◌, ℕ, ◌+◌, ◌<◌, ◌==◌, if◌then◌else◌, true, false, List}
use Rattle.std.specs.Prelude.{[], ◌∷◌, ◌++◌, codes, decimal, drop, length, Ok, Err, Option, Result, MatchResult}
use Rattle.std.specs.Io.KnownBytes.{Appends}
use Rattle.script_lines.specs.Pieces.{whole_lines, last_part}
use Rattle.report_io.specs.declared.fault.ReportFault.{ReportFault}
use Rattle.report_io.specs.Faults.{HasReason, IsBadLine, IsReported, IsWriteFault, fault_status}
use Rattle.report_io.specs.IndentedLines.{indented, is_indented, unindented}
use Rattle.report_io.specs.Streams.{Reads}
use Rattle.report_io.specs.Takings.{ScriptStops, Writes, WritesFirst}
use Rattle.script_lines.specs.Parts.{plural_end}
use Rattle.sm_script.specs.Runs.{IsWhy}
use Rattle.sm_script.specs.Scenes.{Answers, LeadsTo, Scene, Setting, as_line, first_scene}
use Rattle.event_texts.specs.Deeds.{KeptLines, no_lines}
use Rattle.event_texts.specs.EventLines.{Tells}
use Rattle.script_explain.specs.declared.check.CheckResult.{CheckResult}

-- the line says nothing: it begins with four spaces
abbrev pub IsRemark : List ℕ → Type 0
IsRemark line = (is_indented line ≡ true) × (is_indented (drop 2 line) ≡ true)

-- the line records this reply: it begins with two spaces and no more
abbrev pub Records : List ℕ → List ℕ → Type 0
Records line reply = (is_indented line ≡ true) × (is_indented (drop 2 line) ≡ false) × (reply ≡ drop 2 line)

-- where the comparison of a transcript is: what happened so far, and the lines that made nodes fail; the last line that was played,
-- with its number, what it was answered, which is nothing or a line, and the facts of its event; how many lines were played that
-- have a reply, and how many replies compared
pub record TranscriptPlace : Type 0 where
  pub scene : Scene
  pub kept : KeptLines
  pub number : ℕ
  pub line : List ℕ
  pub reply : List ℕ
  pub facts : List ℕ
  pub lines : ℕ
  pub replies : ℕ

-- no line was played
abbrev pub start : TranscriptPlace
start =
    record { scene = first_scene; kept = no_lines; number = 0; line = []; reply = []; facts = []; lines = 0; replies = 0 }

-- one more line that has a reply is counted
abbrev pub lines_with : ℕ → List ℕ → ℕ
lines_with lines [] = lines
lines_with lines (byte ∷ more) = lines + 1

-- one more line was played, that of this number, with this reply and these facts
abbrev pub played : TranscriptPlace → ℕ → List ℕ → List ℕ → List ℕ → Scene → KeptLines → TranscriptPlace
played at number line reply facts next kept = record {
  scene = next;
  kept = kept;
  number = number;
  line = line;
  reply = reply;
  facts = facts;
  lines = lines_with at.lines reply;
  replies = at.replies;
}

-- one more reply was compared
abbrev pub compared : TranscriptPlace → TranscriptPlace
compared at = record at { replies = at.replies + 1 }

-- these lines, one after another, were played and compared, and each reply that they record is that of the machine to the last
-- line before it that was played
pub data Agrees (pool : ℕ) : List (List ℕ) → TranscriptPlace → Type 0 where
  Begins : Agrees pool [] start
  Remarks : (lines : List (List ℕ)) (line : List ℕ) (at : TranscriptPlace) → Agrees pool lines at → IsRemark line →
      Agrees pool (lines ++ line ∷ []) at
  Replies : (lines : List (List ℕ)) (line reply : List ℕ) (at : TranscriptPlace) → Agrees pool lines at → Records line reply →
      at.reply ≡ as_line reply → Agrees pool (lines ++ line ∷ []) (compared at)
  Plays : (lines : List (List ℕ)) (line reply facts : List ℕ) (at : TranscriptPlace) (next : Scene) (later : KeptLines) →
      Agrees pool lines at → is_indented line ≡ false → (answers : Answers pool at.scene line reply next) →
      Tells pool at.scene next (length lines + 1) line answers.act at.kept later facts →
      Agrees pool (lines ++ line ∷ []) (played at (length lines + 1) line reply facts next later)

-- the lines agree with a machine whose history is legal, and whose calls are those of the lines that are not indented
pub record Agreement (setting : Setting) (lines : List (List ℕ)) (at : TranscriptPlace) : Type 0 where
  pub agrees : Agrees setting.pool lines at
  pub texts : List ℕ
  pub leads : LeadsTo setting (unindented lines) texts at.scene

-- the word behind this number of replies
abbrev pub replies_word : ℕ → List ℕ
replies_word replies = if replies == 1 then codes " reply\n" else codes " replies\n"

-- what is told where all agrees
abbrev pub agreement_text : TranscriptPlace → List ℕ
agreement_text at = codes "agrees: " ++ decimal at.lines ++ codes " " ++ codes "line" ++ plural_end at.lines ++ codes ", "
    ++ decimal at.replies ++ replies_word at.replies

-- what is told where no reply was compared, after so many lines that have one
abbrev pub empty_words : ℕ → List ℕ
empty_words lines = if lines == 0 then codes "no line was played\n" else codes "no reply is recorded\n"

-- the same of a place
abbrev pub empty_text : TranscriptPlace → List ℕ
empty_text at = empty_words at.lines

-- the legal reply, as it is told: nothing is no reply
abbrev pub legal_text : List ℕ → List ℕ
legal_text [] = codes "no reply\n"
legal_text (byte ∷ more) = byte ∷ more

-- what is told of the line of this number, where one reply is legal and another recorded
abbrev pub told_difference : ℕ → List ℕ → List ℕ → List ℕ → List ℕ
told_difference number line reply recorded = codes "line " ++ decimal number ++ codes ": " ++ line ++ codes "\n  recorded  "
    ++ recorded ++ codes "\n  legal     " ++ legal_text reply

-- a reply is recorded that is not the legal one, and all before it agrees; the text tells so, and then the facts of the event of
-- the line that was played last
pub record Difference (setting : Setting) (lines : List (List ℕ)) (text : List ℕ) : Type 0 where
  pub before : List (List ℕ)
  pub line : List ℕ
  pub after : List (List ℕ)
  pub split : lines ≡ before ++ line ∷ after
  pub at : TranscriptPlace
  pub agreed : Agreement setting before at
  pub some_played : 0 < at.lines
  pub reply : List ℕ
  pub records : Records line reply
  pub differs : at.reply ≢ as_line reply
  pub said : text ≡ told_difference at.number at.line at.reply reply ++ indented at.facts

-- what is said of a place up to which all agrees: that it does, if a reply was compared
abbrev pub IsSaid : CheckResult → TranscriptPlace → List ℕ → List ℕ → Type 0
IsSaid CheckResult.Agrees at before after = (0 < at.replies) × (after ≡ before ++ agreement_text at)
IsSaid CheckResult.Empty at before after = (at.replies ≡ 0) × (after ≡ before ++ empty_text at)
IsSaid CheckResult.Differs at before after = ⊥

-- all agrees, and the text tells so, or that no reply was compared
pub record FullAgreement (setting : Setting) (script : List ℕ) (text : List ℕ) (verdict : CheckResult) : Type 0 where
  pub ended : last_part script ≡ []
  pub at : TranscriptPlace
  pub agreed : Agreement setting (whole_lines script) at
  pub said : IsSaid verdict at [] text

-- the verdict on the script, with its text
abbrev pub IsVerdict : Setting → List ℕ → List ℕ → CheckResult → Type 0
IsVerdict setting script text CheckResult.Agrees = FullAgreement setting script text CheckResult.Agrees
IsVerdict setting script text CheckResult.Empty = FullAgreement setting script text CheckResult.Empty
IsVerdict setting script text CheckResult.Differs = Difference setting (whole_lines script) text

-- what is told of a reply that is recorded before any line was played that has one
abbrev pub early_reason : List ℕ
early_reason = codes "a reply stands before the first line that has one"

-- the line of this number records a reply before any line was played that has one
abbrev pub IsEarly : TranscriptPlace → List ℕ → ℕ → ReportFault → Type 0
IsEarly at line number fault = (reply : List ℕ) × Records line reply × (at.lines ≡ 0) × IsBadLine number fault × HasReason early_reason fault

-- why the line behind these, of which nothing is told, could be neither played nor compared: memory was refused; or it is bad, or
-- the history is full; or its reply comes too early
abbrev pub IsUnchecked : Setting → List (List ℕ) → List ℕ → List ℕ → ReportFault → Type 0
IsUnchecked setting lines text line fault = (text ≡ []) × ((fault ≡ ReportFault.NoMemory)
    ⊎ ((at : TranscriptPlace) × Agreement setting lines at
    × (((is_indented line ≡ false) × IsWhy setting at.scene line (length lines + 1) fault) ⊎ IsEarly at line (length lines + 1) fault)))

-- the lines agree so far, and nothing is told of them
abbrev pub AgreesSoFar : Setting → List (List ℕ) → List ℕ → Type 0
AgreesSoFar setting lines text = (text ≡ []) × (at : TranscriptPlace) × Agreement setting lines at

-- why there is no verdict: the transcript was not compared to its end; or it was, and the verdict could not be told
abbrev pub CheckStops : Setting → Option (List ℕ) → Option (List ℕ) → List ℕ → ReportFault → Type 0
CheckStops setting old new script fault =
    ScriptStops (Difference setting) (IsUnchecked setting) (AgreesSoFar setting) old new script fault
    ⊎ ((IsWriteFault fault × (verdict : CheckResult) × WritesFirst (λ text. IsVerdict setting script text verdict) old new)
    ⊎ ((fault ≡ ReportFault.NoMemory) × Appends old new []))

-- what came of a transcript that was read
abbrev pub CheckTold : Setting → Option (List ℕ) → Option (List ℕ) → List ℕ → Result CheckResult ReportFault → Type 0
CheckTold setting old new script result = MatchResult result
    (λ verdict. Writes (λ text. IsVerdict setting script text verdict) old new) (CheckStops setting old new script)

-- a transcript was read, and its lines were compared
abbrev pub Checks : Setting → Option (List ℕ) → Option (List ℕ) → Option (List ℕ) → Option (List ℕ) →
    Result CheckResult ReportFault → Type 0
Checks setting left_before left old new result = Reads (CheckTold setting old new) left_before left old new result

-- the status that the program ends with: 0 where all agrees, 6 where a reply differs, 7 where no reply was compared
abbrev pub checking_status : Result CheckResult ReportFault → ℕ
checking_status (Ok CheckResult.Agrees) = 0
checking_status (Ok CheckResult.Differs) = 6
checking_status (Ok CheckResult.Empty) = 7
checking_status (Err fault) = fault_status fault

-- a transcript was checked, with this outcome: the status is its status, and its fault, if there is one, was told
pub record EndsChecked (setting : Setting) (left_before left old new told_before told : Option (List ℕ)) (status : ℕ) : Type 0 where
  pub outcome : Result CheckResult ReportFault
  pub checks : Checks setting left_before left old new outcome
  pub status_is : status ≡ checking_status outcome
  pub reported : IsReported told_before told outcome
