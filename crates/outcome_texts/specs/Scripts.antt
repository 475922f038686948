-- The text of a play as a script for all clients.
use Rattle.std.specs.Prelude.{◌≡◌, ℕ, Bool, true, ◌&&◌, nat_le, nat_lt, if◌then◌else◌, List, [], ◌∷◌, ◌++◌, length, take, drop, vec_len, codes}
use Rattle.std.specs.Fmt.{decimal}
use Rattle.std.specs.List.{flat_map}
use Rattle.std.specs.Option.{option_map_or}
use Rattle.explore_model.specs.declared.found.Found.{Found}
use Rattle.outcome_texts.specs.Calls.{calls_told}
use Rattle.outcome_texts.specs.Leaves.{leave_text}
use Rattle.outcome_texts.specs.Plays.{counted, joins_text, line_told, pieces, step_text}
use Rattle.outcome_texts.specs.Vanishing.{can_vanish, gone_text}
use Rattle.outcome_texts.specs.declared.calls.PlayCall.{PlayCall}
use Rattle.outcome_texts.specs.declared.lines.StepLine.{StepLine}
use Rattle.outcome_texts.specs.declared.telling.Telling.{Telling}

-- the line of a call
abbrev pub call_text : Telling → Found → PlayCall → List ℕ
call_text telling found (PlayCall.Step actor at) = option_map_or
    (λ (step : StepLine). step_text telling.names.now actor step.line.now)
    (line_told telling actor at) []
call_text telling found (PlayCall.Leave actor number) = leave_text telling found actor number

-- the lines of these calls
abbrev pub calls_text : Telling → Found → List PlayCall → List ℕ
calls_text telling found calls = flat_map (call_text telling found) calls

-- the remark behind the call after which no other outcome is possible
abbrev pub mark_text : ℕ → List ℕ
mark_text rank = codes "# from here on every order leads to outcome " ++ decimal rank ++ 10 ∷ []

-- the calls, with the remark behind the one of this number, unless that is 0 or the last
abbrev pub marked_text : Telling → Found → List PlayCall → ℕ → List ℕ
marked_text telling found calls rank =
    let decided = found.figures.decided in
    if nat_le 1 decided && nat_lt decided (length calls)
    then calls_text telling found (take decided calls) ++ mark_text rank ++ calls_text telling found (drop decided calls)
    else calls_text telling found calls

-- what follows what is said of the runs: where somebody may vanish it is no share
abbrev pub runs_end : Bool → List ℕ
runs_end vanishing = if vanishing then [] else codes " of 100 runs; "

-- what is said of the outcome of this number, of so many: the share of the runs that come to it, or who vanishes
abbrev pub head_text : Telling → Found → ℕ → ℕ → List ℕ → List ℕ
head_text telling found rank outcomes said = pieces (codes "# outcome " ∷ decimal rank ∷ codes " of " ∷ decimal outcomes ∷ codes ": " ∷ said
    ∷ runs_end (can_vanish telling.vanishing) ∷ counted (vec_len found.turns) (codes "call") ∷ codes " in "
    ∷ counted found.figures.changes (codes "turn") ∷ codes "\n" ∷ [])

-- the play of the outcome of this number, of so many, as a script for all clients
abbrev pub play_text : Telling → Found → ℕ → ℕ → List ℕ → List ℕ
play_text telling found rank outcomes said = head_text telling found rank outcomes said ++ joins_text telling.labels.now
    ++ marked_text telling found (calls_told found) rank

-- who vanishes by the play, as its remark says it
abbrev pub gone_words : Telling → Found → List ℕ
gone_words telling found = gone_text telling.labels.now found.vanished.items ++ codes "; "

-- the play came behind the text; its remark tells who vanishes by it, where somebody may at any point; no clause says which share of
-- the runs it tells elsewhere
pub record AppendsPlay (telling : Telling) (found : Found) (rank outcomes : ℕ) (old new : List ℕ) : Type 0 where
  pub said : List ℕ
  pub who : can_vanish telling.vanishing ≡ true → said ≡ gone_words telling found
  pub appended : new ≡ old ++ play_text telling found rank outcomes said

-- the text is such a play
abbrev pub IsPlayText : Telling → Found → ℕ → ℕ → List ℕ → Type 0
IsPlayText telling found rank outcomes text = AppendsPlay telling found rank outcomes [] text
