-- Texts that are put one behind the other.
use Rattle.std.proofs.Common.{◌≡◌, ◌∙◌, ap, sym, append_assoc, append-nil, List, ℕ, [], ◌++◌}

-- a text, and behind it the rest
pub after : (old a t w rest : List ℕ) → t ≡ old ++ a → w ≡ t ++ rest → w ≡ old ++ (a ++ rest)
after old a t w rest first next = next ∙ ap (λ (front : List ℕ). front ++ rest) first ∙ append_assoc old a rest

-- the last text
pub last : (old a t : List ℕ) → t ≡ old ++ a → t ≡ old ++ (a ++ [])
last old a t is = is ∙ ap (λ (back : List ℕ). old ++ back) (sym (append-nil a))
