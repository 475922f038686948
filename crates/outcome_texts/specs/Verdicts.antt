-- What a search says of claims.
use Rattle.std.specs.Prelude.{ℕ, ◌+◌, ◌-◌, ◌==◌, Bool, true, false, not, if◌then◌else◌, List, [], ◌∷◌, ◌++◌, slice_get, Option, Some, None, vec_len, codes}
use Rattle.std.specs.Fmt.{decimal}
use Rattle.std.specs.List.{flat_map, list_any, position}
use Rattle.std.specs.Option.{option_map_or}
use Rattle.script_lines.specs.declared.claim.Claim.{Claim}
use Rattle.script_lines.specs.declared.claim.Fact.{Fact}
use Rattle.script_lines.specs.declared.claim.Often.{Often}
use Rattle.explore_model.specs.declared.found.Exploration.{Exploration}
use Rattle.explore_model.specs.declared.found.Found.{Found}
use Rattle.outcome_texts.specs.Calls.{calls_told}
use Rattle.explore_model.specs.Outcomes.{ends_of}
use Rattle.outcome_texts.specs.Facts.{has_fact}
use Rattle.outcome_texts.specs.Plays.{counted, line_told, pieces}
use Rattle.outcome_texts.specs.Scripts.{call_text}
use Rattle.outcome_texts.specs.declared.calls.PlayCall.{PlayCall}
use Rattle.outcome_texts.specs.declared.lines.StepLine.{StepLine}
use Rattle.outcome_texts.specs.declared.telling.Telling.{Telling}
use Rattle.outcome_texts.specs.declared.verdicts.ClaimLine.{ClaimLine}
use Rattle.outcome_texts.specs.declared.verdicts.Verdict.{Verdict}

-- an outcome with the fact is sought, or one without it
abbrev pub is_sought : Often → Bool
is_sought Often.Always = false
is_sought _ = true

-- the fact is so, or is not, as it is wanted
abbrev pub is_as : Bool → Bool → Bool
is_as true so = so
is_as false so = not so

-- the place of the first outcome with the fact, or of the first without it
abbrev pub first_with : Telling → Fact → Bool → List Found → Option ℕ
first_with telling fact wanted outcomes = position (λ (found : Found). is_as wanted (has_fact telling fact (ends_of found.outcome))) outcomes

-- what is said where no outcome breaks a claim
abbrev pub unbroken : Bool → Verdict
unbroken complete = if complete then Verdict.Holds else Verdict.Open

-- what is said of a claim that no outcome may break, by the first that does
abbrev pub breaking : Bool → Option ℕ → Verdict
breaking complete None = unbroken complete
breaking complete (Some at) = Verdict.Broken at

-- what is said of one that an outcome is to have, by the first that has it
abbrev pub having : Bool → Option ℕ → Verdict
having complete None = if complete then Verdict.Missing else Verdict.Open
having complete (Some at) = Verdict.Holds

-- what is said of a claim, by the first outcome that was sought
abbrev pub verdict_by : Bool → Often → Option ℕ → Verdict
verdict_by complete Often.Sometimes first = having complete first
verdict_by complete _ first = breaking complete first

-- what the search says of the claim
abbrev pub verdict_of : Telling → Exploration → Claim → Verdict
verdict_of telling found claim =
    verdict_by found.complete claim.often (first_with telling claim.fact (is_sought claim.often) found.outcomes.items)

-- the claim does not hold
abbrev pub is_broken : Verdict → Bool
is_broken (Verdict.Broken at) = true
is_broken Verdict.Missing = true
is_broken _ = false

-- one of them does not
abbrev pub has_broken : Telling → Exploration → List ClaimLine → Bool
has_broken telling found claims = list_any (λ (one : ClaimLine). is_broken (verdict_of telling found one.claim)) claims

-- ---- the text

-- the call as the script has it: the line of its step, or that by which a client leaves
abbrev pub source_text : Telling → Found → PlayCall → List ℕ
source_text telling found (PlayCall.Step actor at) =
    option_map_or (λ (step : StepLine). pieces (step.line.now ∷ codes "\n" ∷ [])) (line_told telling actor at) []
source_text telling found (PlayCall.Leave actor number) = call_text telling found (PlayCall.Leave actor number)

-- the call of this number, after which no other outcome is possible
abbrev pub decision_text : Telling → Found → ℕ → PlayCall → List ℕ
decision_text telling found number call =
    pieces (codes "    decided by call " ∷ decimal number ∷ codes ": " ∷ []) ++ source_text telling found call

-- the call of this number, from 1
abbrev pub call_numbered : List PlayCall → ℕ → Option PlayCall
call_numbered calls number = if number == 0 then None else slice_get calls (number - 1)

-- the call after which no other outcome is possible, if there is one
abbrev pub decided_text : Telling → Found → List ℕ
decided_text telling found =
    option_map_or (decision_text telling found found.figures.decided) (call_numbered (calls_told found) found.figures.decided) []

-- how long the play is that breaks the claim
abbrev pub broken_head : ℕ → Found → List ℕ
broken_head rank found = pieces (codes "    does not hold: outcome " ∷ decimal rank ∷ codes ", in "
    ∷ counted (vec_len found.turns) (codes "call") ∷ codes " and " ∷ counted found.figures.changes (codes "turn") ∷ codes "\n" ∷ [])

-- which outcome breaks the claim
abbrev pub broken_text : Telling → ℕ → Found → List ℕ
broken_text telling rank found = broken_head rank found ++ decided_text telling found

-- the same, by its place
abbrev pub breaking_text : Telling → List Found → ℕ → List ℕ
breaking_text telling outcomes at = option_map_or (broken_text telling (at + 1)) (slice_get outcomes at) []

-- what is said of a claim
abbrev pub verdict_text : Telling → List Found → Verdict → List ℕ
verdict_text telling outcomes Verdict.Holds = codes "    holds\n"
verdict_text telling outcomes Verdict.Open = codes "    is open: not all was explored\n"
verdict_text telling outcomes Verdict.Missing = codes "    does not hold: no outcome has it\n"
verdict_text telling outcomes (Verdict.Broken at) = breaking_text telling outcomes at

-- the claim itself
abbrev pub words_text : ClaimLine → List ℕ
words_text one = pieces (codes "  line " ∷ decimal one.number ∷ codes ": " ∷ one.words.now ∷ codes "\n" ∷ [])

-- the claim, and what is said of it
abbrev pub claim_text : Telling → Exploration → ClaimLine → List ℕ
claim_text telling found one = words_text one
    ++ verdict_text telling found.outcomes.items (verdict_of telling found one.claim)

-- all claims, if there are any
abbrev pub claims_text : Telling → Exploration → List ClaimLine → List ℕ
claims_text telling found [] = []
claims_text telling found (one ∷ more) = codes "\nclaims\n" ++ flat_map (claim_text telling found) (one ∷ more)
