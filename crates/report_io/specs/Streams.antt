-- How a script comes in.
use Rattle.std.specs.Prelude.{◌⊎◌, ℕ, ◌<◌, ◌≤◌, List, length, Option, MatchResult, Result}
use Rattle.std.specs.Io.KnownBytes.{Consumes, IsAtEnd, Keeps}
use Rattle.script_lines.specs.declared.TheConstants.{MOST_BYTES}
use Rattle.report_io.specs.declared.fault.ReportFault.{ReportFault}

-- these bytes came, as many as a script may have or fewer
pub record Came (left_before left : Option (List ℕ)) : Type 0 where
  pub bytes : List ℕ
  pub taken : Consumes left_before left bytes
  pub within : length bytes ≤ MOST_BYTES

-- more bytes came than a script may have
pub record CameBeyond (left_before left : Option (List ℕ)) : Type 0 where
  pub bytes : List ℕ
  pub taken : Consumes left_before left bytes
  pub beyond : MOST_BYTES < length bytes

-- why a script did not come in
abbrev pub IsUnread : Option (List ℕ) → Option (List ℕ) → ReportFault → Type 0
IsUnread left_before left ReportFault.ReadFault = Came left_before left
IsUnread left_before left ReportFault.TooLong = CameBeyond left_before left
IsUnread left_before left ReportFault.NoMemory = Came left_before left
IsUnread left_before left _ = ⊥

-- a script did not come in, and nothing was written; or this script did, to its end, and of what came of it this holds
abbrev pub Reads : {A : Type 0} → (List ℕ → Result A ReportFault → Type 0) → Option (List ℕ) → Option (List ℕ) →
    Option (List ℕ) → Option (List ℕ) → Result A ReportFault → Type 0
Reads Comes left_before left old new result =
    MatchResult result (λ _. ⊥) (λ fault. IsUnread left_before left fault × Keeps old new)
    ⊎ ((script : List ℕ) × Consumes left_before left script × IsAtEnd left × (length script ≤ MOST_BYTES) × Comes script result)
