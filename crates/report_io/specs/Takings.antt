-- What is out where the lines of a script are taken one after another.
use Rattle.std.specs.Prelude.{◌≡◌, ◌≢◌, ◌⊎◌, ℕ, ◌+◌, Bool, true, List, [], ◌∷◌, ◌++◌, length, Option, MatchResult, Result}
use Rattle.std.specs.Io.KnownBytes.{Appends}
use Rattle.script_lines.specs.Pieces.{whole_lines, last_part}
use Rattle.script_lines.specs.Written.{WritesPart}
use Rattle.report_io.specs.declared.fault.ReportFault.{ReportFault}
use Rattle.report_io.specs.declared.taking.Told.{Told}
use Rattle.report_io.specs.Faults.{HasReason, IsBadLine, IsWriteFault}
use Rattle.report_io.specs.Reasons.{unended_reason}

-- a text of which this holds was written
pub record Writes (Is : List ℕ → Type 0) (old new : Option (List ℕ)) : Type 0 where
  pub text : List ℕ
  pub is : Is text
  pub written : Appends old new text

-- a first part of a text of which this holds was written
pub record WritesFirst (Is : List ℕ → Type 0) (old new : Option (List ℕ)) : Type 0 where
  pub text : List ℕ
  pub is : Is text
  pub written : WritesPart old new text

-- this holds of some first of these lines
pub record Among (At : List (List ℕ) → Type 0) (lines : List (List ℕ)) : Type 0 where
  pub before : List (List ℕ)
  pub after : List (List ℕ)
  pub split : lines ≡ before ++ after
  pub at : At before

-- this holds of one of these lines, behind those before it
pub record AtLine (At : List (List ℕ) → List ℕ → Type 0) (lines : List (List ℕ)) : Type 0 where
  pub before : List (List ℕ)
  pub line : List ℕ
  pub after : List (List ℕ)
  pub split : lines ≡ before ++ line ∷ after
  pub at : At before line

-- the text could not be written, and a first part of it was
abbrev pub Fails : Option (List ℕ) → Option (List ℕ) → List ℕ → ReportFault → Type 0
Fails old new text fault = IsWriteFault fault × (text ≢ []) × WritesPart old new text

-- the text was written, and this fault is told; or it could not be, and that is told
abbrev pub GivesUp : Option (List ℕ) → Option (List ℕ) → List ℕ → ReportFault → ReportFault → Type 0
GivesUp old new text fault told = ((told ≡ fault) × Appends old new text) ⊎ Fails old new text told

-- a text has one piece more, and of the whole with it this holds
abbrev pub Gains : (List ℕ → Type 0) → List ℕ → List ℕ → List ℕ → Type 0
Gains Is whole old new = (piece : List ℕ) × (new ≡ old ++ piece) × Is (whole ++ piece)

-- these lines were not all taken: a first part of the text of some was written; or one was not taken, and all of the text of those
-- before it was written
abbrev pub StopsIn : (List (List ℕ) → List ℕ → Type 0) → (List (List ℕ) → List ℕ → List ℕ → ReportFault → Type 0) →
    Option (List ℕ) → Option (List ℕ) → List (List ℕ) → ReportFault → Type 0
StopsIn First Why old new lines fault = (IsWriteFault fault × Among (λ before. WritesFirst (First before) old new) lines)
    ⊎ AtLine (λ before line. Writes (λ text. Why before text line fault) old new) lines

-- the script was not taken to its end: the same of its lines; or the last one has no end, and all of the text of the others was written
abbrev pub ScriptStops : (List (List ℕ) → List ℕ → Type 0) → (List (List ℕ) → List ℕ → List ℕ → ReportFault → Type 0) →
    (List (List ℕ) → List ℕ → Type 0) → Option (List ℕ) → Option (List ℕ) → List ℕ → ReportFault → Type 0
ScriptStops First Why Whole old new script fault = StopsIn First Why old new (whole_lines script) fault
    ⊎ ((last_part script ≢ []) × IsBadLine (length (whole_lines script) + 1) fault × HasReason unended_reason fault
    × Writes (Whole (whole_lines script)) old new)

module _ {T : Type 0} (Took : T → Bool → List (List ℕ) → List ℕ → Type 0) where
  -- these lines were taken; their text was written, but for what is still to go out
  pub record Stands (now : T) (more : Bool) (told : Told) (old new : Option (List ℕ)) (lines : List (List ℕ)) : Type 0 where
    pub text : List ℕ
    pub took : Took now more lines text
    pub done : List ℕ
    pub split : text ≡ done ++ told.text.items
    pub written : Appends old new done
    pub counted : told.lines ≡ length lines

  -- behind these lines those that come were taken, all of them unless no more are taken
  pub record TakesOn (now : T) (more : Bool) (told : Told) (old new : Option (List ℕ)) (lines coming : List (List ℕ)) : Type 0 where
    pub taken : List (List ℕ)
    pub after : List (List ℕ)
    pub split : coming ≡ taken ++ after
    pub all : more ≡ true → after ≡ []
    pub stands : Stands now more told old new (lines ++ taken)

  -- the lines of the script were taken, all of them unless no more are taken, and their text was written
  pub record IsTaken (now : T) (old new : Option (List ℕ)) (script : List ℕ) (more : Bool) : Type 0 where
    pub lines : List (List ℕ)
    pub after : List (List ℕ)
    pub split : whole_lines script ≡ lines ++ after
    pub all : more ≡ true → (after ≡ []) × (last_part script ≡ [])
    pub out : Writes (Took now more lines) old new

  -- these lines have this text, and there is some
  abbrev pub HasText : List (List ℕ) → List ℕ → Type 0
  HasText lines text = (text ≢ []) × (at : T) × (more : Bool) × Took at more lines text

  module _ (Refuses : T → List (List ℕ) → List ℕ → List ℕ → ReportFault → Type 0) (now : T) where
    -- why the line behind these, which have this text, was not taken: memory was refused, or this is said
    abbrev pub WhyNot : List (List ℕ) → List ℕ → List ℕ → ReportFault → Type 0
    WhyNot lines text line fault =
        ((fault ≡ ReportFault.NoMemory) × (at : T) × Took at true lines text) ⊎ Refuses now lines text line fault

    -- not all of these lines were taken
    abbrev pub Stops : Option (List ℕ) → Option (List ℕ) → List (List ℕ) → ReportFault → Type 0
    Stops = StopsIn HasText WhyNot

    -- the same; or memory was refused for what stands behind them, and the text of exactly these was written
    abbrev pub Breaks : Option (List ℕ) → Option (List ℕ) → List (List ℕ) → List ℕ → ReportFault → Type 0
    Breaks old new lines rest fault = Stops old new lines fault
        ⊎ ((fault ≡ ReportFault.NoMemory) × (rest ≢ []) × Writes (Took now true lines) old new)

-- what came of the lines of a script
abbrev pub ScriptComes : {T : Type 0} → (T → Bool → List (List ℕ) → List ℕ → Type 0) →
    (T → List (List ℕ) → List ℕ → List ℕ → ReportFault → Type 0) → T → Option (List ℕ) → Option (List ℕ) → List ℕ →
    Result Bool ReportFault → Type 0
ScriptComes Took Refuses now old new script result = MatchResult result (IsTaken Took now old new script)
    (ScriptStops (HasText Took) (WhyNot Took Refuses now) (Took now true) old new script)

module _ {T : Type 0} (took : T → T → Bool → List (List ℕ) → List ℕ → Type 0) (now : T) (told : Told) (mid : Option (List ℕ)) where
  -- these lines more were taken between the two moments
  abbrev pub Goes : T → Bool → Told → Option (List ℕ) → List (List ℕ) → Type 0
  Goes next more later new coming = (first : T) (old : Option (List ℕ)) (lines : List (List ℕ)) →
      Stands (took first) now true told old mid lines → Stands (took first) next more later old new (lines ++ coming)

  -- those that come were, all of them unless no more are taken
  abbrev pub GoesOn : T → Told → Option (List ℕ) → List (List ℕ) → Bool → Type 0
  GoesOn next later new coming more = (first : T) (old : Option (List ℕ)) (lines : List (List ℕ)) →
      Stands (took first) now true told old mid lines → TakesOn (took first) next more later old new lines coming

  module _ (refuses : T → T → List (List ℕ) → List ℕ → List ℕ → ReportFault → Type 0) where
    -- not all of these lines more were taken
    abbrev pub Halts : T → Option (List ℕ) → List (List ℕ) → ReportFault → Type 0
    Halts next new coming fault = (first : T) (old : Option (List ℕ)) (lines : List (List ℕ)) →
        Stands (took first) now true told old mid lines → Stops (took first) (refuses first) next old new (lines ++ coming) fault

    -- not all of these were, or not what stands behind them
    abbrev pub BreaksOff : T → Option (List ℕ) → List (List ℕ) → List ℕ → ReportFault → Type 0
    BreaksOff next new coming rest fault = (first : T) (old : Option (List ℕ)) (lines : List (List ℕ)) →
        Stands (took first) now true told old mid lines →
        Breaks (took first) (refuses first) next old new (lines ++ coming) rest fault
