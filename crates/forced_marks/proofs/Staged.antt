-- The stages of marks that are made one after another.
use Rattle.forced_marks.proofs.Common.{Change, Collection, Interval, List, Mark, None, Option, Some, Stage, [], ap, cons_option, made}
use Rattle.forced_marks.proofs.Common.{map, mark_told, own_mark, own_stage, refl, stage_of, stages, ℕ, ◌++◌, ◌∷◌, ◌≡◌}
use Rattle.std.specs.Option.{option_map}
use Rattle.forced_marks.specs.declared.moment.Moment.{Moment}

-- they have these marks
marks_in : (pool : ℕ) (others : List Interval) (c : Collection) (ms : List Mark) →
    map (λ (x : Stage). x.mark) (stages pool others c ms) ≡ ms
marks_in pool others c [] = refl
marks_in pool others c (m ∷ ms) = ap (λ (l : List Mark). m ∷ l) (marks_in pool others (made pool others m c) ms)

-- and with that of the change in front, its own mark too
pub marks_staged : (pool : ℕ) (others : List Interval) (change : Change) (c changed : Collection) (ms : List Mark) →
    map (λ (x : Stage). x.mark) (own_stage change c ++ stages pool others changed ms) ≡ cons_option (own_mark change) ms
marks_staged pool others change c changed ms = by (own_mark change)
  where
    -- by cases: the change has a mark of its own, or none
    by : (o : Option Mark) →
        map (λ (x : Stage). x.mark)
        (cons_option (option_map (λ mark. record { mark = mark; before = c }) o) [] ++ stages pool others changed ms)
        ≡ cons_option o ms
    by None = marks_in pool others changed ms
    by (Some mark) = ap (λ (l : List Mark). mark ∷ l) (marks_in pool others changed ms)

-- the marks of moments are those of their stages
pub marks_of_moments : (moments : List Moment) →
    map (λ (x : Stage). x.mark) (map stage_of moments) ≡ map (λ (m : Moment). mark_told m.mark) moments
marks_of_moments [] = refl
marks_of_moments (m ∷ ms) = ap (λ (l : List Mark). mark_told m.mark ∷ l) (marks_of_moments ms)

-- one moment more behind others
pub one_stage_more : (xs : List Moment) (m : Moment) (rest : List Stage) →
    map stage_of (xs ++ m ∷ []) ++ rest ≡ map stage_of xs ++ stage_of m ∷ rest
one_stage_more [] m rest = refl
one_stage_more (x ∷ xs) m rest = ap (λ (l : List Stage). stage_of x ∷ l) (one_stage_more xs m rest)

-- and none
pub no_stage_more : (xs : List Stage) → xs ++ [] ≡ xs
no_stage_more [] = refl
no_stage_more (x ∷ xs) = ap (λ (l : List Stage). x ∷ l) (no_stage_more xs)
