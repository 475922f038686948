-- Texts one behind another.
use Rattle.outcome_texts.proofs.Common.{List, ap, append_assoc, ℕ, ◌++◌, ◌∙◌, ◌≡◌}

-- three texts behind another
pub three_behind : (old head joins calls : List ℕ) → old ++ head ++ joins ++ calls ≡ old ++ (head ++ joins ++ calls)
three_behind old head joins calls =
    ap (λ (front : List ℕ). front ++ calls) (append_assoc old head joins) ∙ append_assoc old (head ++ joins) calls
