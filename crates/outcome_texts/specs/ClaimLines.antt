-- The lines of a script that are claims.
use Rattle.std.specs.Prelude.{ℕ, ◌≡◌, ◌+◌, ◌≤◌, nat_le, Bool, true, false, if◌then◌else◌, List, [], ◌∷◌, ◌++◌, drop, length, map, Option, Some, None, Result, Ok, Err, ⊤}
use Rattle.std.specs.List.{list_any}
use Rattle.std.specs.Option.{option_and_then, option_map_or}
use Rattle.script_lines.specs.Pieces.{whole_lines}
use Rattle.script_lines.specs.declared.claim.Claim.{Claim}
use Rattle.script_lines.specs.Claims.{claim_of, is_claim_line}
use Rattle.script_lines.specs.ClientLists.{are_clients, is_among, listed, vanish_text}
use Rattle.script_lines.specs.declared.label.Label.{Label}
use Rattle.outcome_texts.specs.Facts.{is_known}
use Rattle.outcome_texts.specs.Reasons.{IsListFault, bad_fault, fault_words}
use Rattle.outcome_texts.specs.declared.claims.BadClaim.{BadClaim}
use Rattle.outcome_texts.specs.declared.claims.ClaimText.{ClaimText}
use Rattle.outcome_texts.specs.declared.telling.Telling.{Telling}
use Rattle.outcome_texts.specs.declared.verdicts.ClaimLine.{ClaimLine}

-- a line that is a claim, good or bad: its number, and its bytes
pub record Text : Type 0 where
  pub number : ℕ
  pub line : List ℕ

-- the line of this number, if it is one
abbrev pub claim_text_of : ℕ → List ℕ → List Text
claim_text_of number line = if is_claim_line line then record { number = number; line = line } ∷ [] else []

-- those of these lines, of which the first has this number
abbrev pub claim_texts_from : ℕ → List (List ℕ) → List Text
claim_texts_from number [] = []
claim_texts_from number (line ∷ lines) = claim_text_of number line ++ claim_texts_from (number + 1) lines

-- those of a script
abbrev pub claim_texts_of : List ℕ → List Text
claim_texts_of script = claim_texts_from 1 (whole_lines script)

-- the line as it is told
abbrev pub text_told : ClaimText → Text
text_told one = record { number = one.number; line = one.line.now }

-- these lines as they are told
abbrev pub texts_in : List ClaimText → List Text
texts_in texts = map text_told texts

-- a claim: the number of its line, the words that a report repeats, and what they say
pub record ToldClaim : Type 0 where
  pub number : ℕ
  pub words : List ℕ
  pub claim : Claim

-- the words behind `#! `
abbrev pub words_behind : List ℕ → List ℕ
words_behind line = if nat_le 3 (length line) then drop 3 line else line

-- the claim, if all is there that it names
abbrev pub known_claim : Telling → Claim → Option Claim
known_claim telling claim = if is_known telling claim.fact then Some claim else None

-- the claim of the line, if it is a good one
abbrev pub good_claim : Telling → List ℕ → Option Claim
good_claim telling line = option_and_then (known_claim telling) (claim_of line)

-- a bad line: its number, and why it is bad
pub record Bad : Type 0 where
  pub number : ℕ
  pub reason : List ℕ

-- the line, which lets these clients vanish or is a claim, is bad
abbrev pub bad_line : Telling → Text → Option (List ℕ) → Bad
bad_line telling text names = record { number = text.number; reason = fault_words (bad_fault telling text.line names) }

-- the claim comes first
abbrev pub put_first : ToldClaim → Result (List ToldClaim) Bad → Result (List ToldClaim) Bad
put_first one (Ok claims) = Ok (one ∷ claims)
put_first one (Err bad) = Err bad

-- the line is a claim, before these; or it is bad
abbrev pub with_claim : Telling → Text → Option Claim → Result (List ToldClaim) Bad → Result (List ToldClaim) Bad
with_claim telling text None claims = Err (bad_line telling text None)
with_claim telling text (Some claim) claims =
    put_first (record { number = text.number; words = words_behind text.line; claim = claim }) claims

-- the clients that the line lets vanish all join, so it is good, and no claim; or it is bad
abbrev pub with_list : Telling → Text → List ℕ → Result (List ToldClaim) Bad → Result (List ToldClaim) Bad
with_list telling text names claims =
    if are_clients (listed 32 names) telling.labels.now then claims else Err (bad_line telling text (Some names))

-- the line lets clients vanish, or is a claim, before these; or it is bad
abbrev pub with_line : Telling → Text → Option (List ℕ) → Result (List ToldClaim) Bad → Result (List ToldClaim) Bad
with_line telling text None claims = with_claim telling text (good_claim telling text.line) claims
with_line telling text (Some names) claims = with_list telling text names claims

-- the claims of these lines, or the first bad one
abbrev pub judged : Telling → List Text → Result (List ToldClaim) Bad
judged telling [] = Ok []
judged telling (text ∷ texts) = with_line telling text (vanish_text text.line) (judged telling texts)

-- the claim as it is told
abbrev pub claim_in : ClaimLine → ToldClaim
claim_in one = record { number = one.number; words = one.words.now; claim = one.claim }

-- these claims as they are told
abbrev pub claims_in : List ClaimLine → List ToldClaim
claims_in claims = map claim_in claims

-- the first of these lines that is bad is that of this number, for this reason; or memory was refused
abbrev pub IsBadClaim : Telling → List Text → BadClaim → Type 0
IsBadClaim telling texts BadClaim.NoMemory = ⊤
IsBadClaim telling texts (BadClaim.Line number fault) =
    judged telling texts ≡ Err (record { number = number; reason = fault_words fault })

-- one more claim, that of the line, is there
pub record Adds (telling : Telling) (text : ClaimText) (old new : List ClaimLine) : Type 0 where
  pub claim : Claim
  pub good : good_claim telling text.line.now ≡ Some claim
  pub last : claims_in new ≡ claims_in old ++ record { number = text.number; words = words_behind text.line.now; claim = claim } ∷ []

-- the line is good: one that lets clients vanish, which all join, or a claim, which now is there too
abbrev pub Takes : Telling → ClaimText → Option (List ℕ) → List ClaimLine → List ClaimLine → Type 0
Takes telling text None old new = Adds telling text old new
Takes telling text (Some names) old new = (are_clients (listed 32 names) telling.labels.now ≡ true) × (claims_in new ≡ claims_in old)

-- the line lets clients vanish of whom one does not join, or is a bad claim
abbrev pub IsBadLine : Telling → ClaimText → Option (List ℕ) → Type 0
IsBadLine telling text None = good_claim telling text.line.now ≡ None
IsBadLine telling text (Some names) = are_clients (listed 32 names) telling.labels.now ≡ false

-- the line of this number lets clients vanish of whom one does not join, for this reason; or memory was refused
abbrev pub IsBadList : Telling → ℕ → List ℕ → BadClaim → Type 0
IsBadList telling number names BadClaim.NoMemory = ⊤
IsBadList telling number names (BadClaim.Line bad fault) =
    IsListFault telling.labels.now (listed 32 names) (Some fault) × (bad ≡ number)

-- the line is such a one, for this reason; or memory was refused
abbrev pub IsBadText : Telling → ClaimText → Option (List ℕ) → BadClaim → Type 0
IsBadText telling text names BadClaim.NoMemory = ⊤
IsBadText telling text names (BadClaim.Line number fault) =
    IsBadLine telling text names × (number ≡ text.number) × (fault ≡ bad_fault telling text.line.now names)

-- these come before the others
abbrev pub put_before : List ToldClaim → Result (List ToldClaim) Bad → Result (List ToldClaim) Bad
put_before claims (Ok more) = Ok (claims ++ more)
put_before claims (Err bad) = Err bad

-- ---- who may vanish

-- the line lets the client of this label vanish
abbrev pub lets_vanish : Label → List ℕ → Bool
lets_vanish client line = option_map_or (λ names. is_among (listed 32 names) client) (vanish_text line) false

-- one of these lines does
abbrev pub may_vanish : List Text → Label → Bool
may_vanish texts client = list_any (λ (text : Text). lets_vanish client text.line) texts

-- which of these clients may vanish: those of the list, whose words commas separate, or else those that the lines let vanish
abbrev pub who_told : Option (List ℕ) → List Text → List Label → List Bool
who_told None texts labels = map (may_vanish texts) labels
who_told (Some names) texts labels = map (is_among (listed 44 names)) labels
