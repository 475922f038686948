-- The report of all outcomes.
use Rattle.std.specs.Prelude.{ℕ, ◌≡◌, ◌+◌, ◌-◌, ◌^◌, ◌==◌, min, Bool, if◌then◌else◌, is_some, List, [], ◌∷◌, ◌++◌, codes, length, vec_len}
use Rattle.std.specs.List.{fold}
use Rattle.explore_model.specs.declared.found.Exploration.{Exploration}
use Rattle.explore_model.specs.declared.plan.Plan.{Plan}
use Rattle.explore_model.specs.Plans.{steps_of}
use Rattle.outcome_texts.specs.declared.telling.Telling.{Telling}
use Rattle.outcome_texts.specs.Plays.{counted, pieces}
use Rattle.outcome_texts.specs.Vanishing.{how_text}

-- how many orders there are, if all were gone through
abbrev pub orders_text : Bool → List ℕ → List ℕ
orders_text complete orders = if complete then orders else []

-- what stands before the number of states
abbrev pub extent_text : Bool → List ℕ
extent_text complete = if complete then codes ", " else codes "not all explored: "

-- what stands behind the number of outcomes: that none is missing for sure, or that there is a doubt
abbrev pub certificate_text : Exploration → List ℕ
certificate_text found = if found.certified then codes ", certified" else if is_some found.doubt then codes ", not certified" else []

-- what ends these counts: an empty line stands before the rows, if there are some
abbrev pub counts_end : Exploration → List ℕ
counts_end found = if vec_len found.outcomes == 0 then codes "\n" else codes "\n\n"

-- how many clients, steps, orders, states and outcomes there are, with words on who vanishes
abbrev pub counts_with : ℕ → ℕ → List ℕ → Exploration → List ℕ → List ℕ
counts_with clients steps how found orders = pieces (counted clients (codes "client") ∷ codes ", "
    ∷ counted steps (codes "step") ∷ codes "; " ∷ how ∷ codes "\n"
    ∷ orders_text found.complete orders ∷ extent_text found.complete ∷ counted found.states (codes "state")
    ∷ codes ", " ∷ counted (vec_len found.outcomes) (codes "outcome") ∷ certificate_text found
    ∷ counts_end found ∷ [])

-- so many steps and those of one more plan, or the greatest number that is told
abbrev pub more_steps : ℕ → Plan → ℕ
more_steps steps plan = min (steps + length (steps_of plan)) (2 ^ 64 - 1)

-- how many steps the plans have
abbrev pub all_steps : List Plan → ℕ
all_steps plans = fold more_steps 0 plans

-- the counts of a search through the plans that are told of, and who vanishes
abbrev pub counts_text : Telling → Exploration → List ℕ → List ℕ
counts_text telling found orders = counts_with (length telling.labels.now) (all_steps telling.plans.now)
    (how_text telling.labels.now telling.vanishing) found orders

-- the report came behind the text; no clause says how many orders are told, and what the rows are
pub record AppendsReport (telling : Telling) (found : Exploration) (old new : List ℕ) : Type 0 where
  pub orders : List ℕ
  pub rows : List ℕ
  pub appended : new ≡ old ++ counts_text telling found orders ++ rows

-- the text is such a report
abbrev pub IsReport : Telling → Exploration → List ℕ → Type 0
IsReport telling found text = AppendsReport telling found [] text
