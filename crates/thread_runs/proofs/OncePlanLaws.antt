-- Plans in which no step waits: they have the steps of the script, one for one.
use Rattle.thread_runs.proofs.Common.{List, None, Option, Planned, Some, Step, Waiting, [], ap, arith, eq-or-lt_of_le, false, inl, inr}
use Rattle.thread_runs.proofs.Common.{length, length-append, option_map_or, planned, refl, slice_get, slice_get_past, suc, sym, zero, ℕ}
use Rattle.thread_runs.proofs.Common.{◌++◌, ◌<◌, ◌∙◌, ◌∷◌, ◌≡◌, ◌≤◌}
use Rattle.std.proofs.lemmas.Option.{slice_get_cases, slice_get_within}
use Rattle.explore_model.specs.Plans.{planned_at, planned_first, planned_step}

-- the step at this place, as it is planned where none waits
abbrev pub once : ℕ → Step → Planned
once at step = record { step = step; at = at; waits = false }

-- what stands before the end of a list stands at the same place of a longer one, by induction on the list
pub get-before : {A : Type 0} (xs ys : List A) (at : ℕ) (x : A) → slice_get xs at ≡ Some x → slice_get (xs ++ ys) at ≡ Some x
get-before [] ys at x is = cc
get-before (z ∷ zs) ys zero x is = is
get-before (z ∷ zs) ys (suc at) x is = get-before zs ys at x is

-- what follows a list stands at the place of its length, by induction on the list
pub get-behind : {A : Type 0} (xs ys : List A) (x : A) → slice_get (xs ++ x ∷ ys) (length xs) ≡ Some x
get-behind [] ys x = refl
get-behind (z ∷ zs) ys x = get-behind zs ys x

-- at its length nothing stands
pub get-end : {A : Type 0} (xs : List A) → slice_get xs (length xs) ≡ None
get-end xs = slice_get_past xs (length xs) (omega arith)

-- at a place before the end something stands
pub there : {A : Type 0} (xs : List A) (at : ℕ) → at < length xs → (x : A) × (slice_get xs at ≡ Some x)
there xs at within = elim (slice_get_cases xs at).1 [
  | inl found ↦ (found.0, found.2)
  | inr past ↦ absurd (omega (arith, within, past.0))
]

-- a step that is there is planned
at-once : (steps : List Step) (at : ℕ) (step : Step) → slice_get steps at ≡ Some step →
    planned_at Waiting.Never steps at ≡ once at step ∷ []
at-once steps at step is = ap (λ (o : Option Step). option_map_or (planned_step Waiting.Never steps at) o []) is

-- as many are planned as were gone over, by induction on how many
first-length : (steps : List Step) (count : ℕ) → count ≤ length steps → length (planned_first Waiting.Never steps count) ≡ count
first-length steps zero few = refl
first-length steps (suc count) few =
    let found = there steps count (omega (arith, few)) in
    let more = first-length steps count (omega (arith, few)) in
    let one : length (planned_at Waiting.Never steps count) ≡ 1 = ap length (at-once steps count found.0 found.1) in
    omega (arith, length-append (planned_first Waiting.Never steps count) (planned_at Waiting.Never steps count), more, one)

-- each of these is the step at its place, by induction on how many
first-at : (steps : List Step) (count at : ℕ) (step : Step) → count ≤ length steps → at < count → slice_get steps at ≡ Some step →
    slice_get (planned_first Waiting.Never steps count) at ≡ Some (once at step)
first-at steps zero at step few before there = absurd (omega (arith, before))
first-at steps (suc count) at step few before there = elim (eq-or-lt_of_le {n = at} {m = count} (omega (arith, before))) [
  | inl is ↦
      let long : length (planned_first Waiting.Never steps count) ≡ at = first-length steps count (omega (arith, few)) ∙ sym is in
      ap (λ (l : List Planned). slice_get (planned_first Waiting.Never steps count ++ l) at)
      (ap (planned_at Waiting.Never steps) (sym is) ∙ at-once steps at step there)
      ∙ (ap (slice_get (planned_first Waiting.Never steps count ++ once at step ∷ [])) (sym long)
      ∙ get-behind (planned_first Waiting.Never steps count) [] (once at step))
  | inr less ↦ get-before (planned_first Waiting.Never steps count) (planned_at Waiting.Never steps count) at (once at step)
      (first-at steps count at step (omega (arith, few)) less there)
]

-- of all steps
pub planned-at-once : (steps : List Step) (at : ℕ) (step : Step) → slice_get steps at ≡ Some step →
    slice_get (planned Waiting.Never steps) at ≡ Some (once at step)
planned-at-once steps at step there =
    first-at steps (length steps) at step (omega arith) (slice_get_within steps at step there) there

-- so there are as many
pub planned-length : (steps : List Step) → length (planned Waiting.Never steps) ≡ length steps
planned-length steps = first-length steps (length steps) (omega arith)
