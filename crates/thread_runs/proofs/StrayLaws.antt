-- The first client at which lines and parts differ.
use Rattle.thread_runs.proofs.Common.{List, None, Some, [], ap, eq-eqb, false, first_stray, if◌then◌else◌, inl, inr, ne_eqb, refl, true}
use Rattle.thread_runs.proofs.Common.{ℕ, ◌==◌, ◌∙◌, ◌∷◌, ◌≡◌}
use Rattle.std.proofs.lemmas.Bool.{cases_eq}

-- if there is none, each line stands beside its part
pub stray_none : (lines parts : List ℕ) → first_stray lines parts ≡ None → lines ≡ parts
stray_none [] [] none = refl
stray_none [] (part ∷ parts) none = cc
stray_none (line ∷ lines) [] none = cc
stray_none (line ∷ lines) (part ∷ parts) none =
    let last : (if line == part then first_stray lines parts else Some part) ≡ None = none in
    elim (cases_eq line part) [
      | inl same ↦
          let here : (line == part) ≡ true = eq-eqb line part same in
          let later : first_stray lines parts ≡ None = rw here at last in
          ap (λ (l : ℕ). l ∷ lines) same ∙ ap (λ (l : List ℕ). part ∷ l) (stray_none lines parts later)
      | inr other ↦
          let here : (line == part) ≡ false = ne_eqb line part other in
          let some : Some part ≡ None = rw here at last in
          cc
    ]
