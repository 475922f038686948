-- Texts that are put behind what is there, each of which begins in a row of its own.
use Rattle.std.proofs.Common.{◌≡◌, ◌∙◌, ap, sym, append_assoc, append-nil, ℕ, List, [], ◌++◌}

-- the first of those that are left, and behind it the others
pub more : (old new first others all : List ℕ) → new ≡ old ++ first → all ≡ first ++ others → new ++ others ≡ old ++ all
more old new first others all put is =
    ap (λ (front : List ℕ). front ++ others) put ∙ (append_assoc old first others ∙ ap (λ (back : List ℕ). old ++ back) (sym is))

-- none is left
pub none : (old left : List ℕ) → left ≡ [] → old ≡ old ++ left
none old left is = sym (append-nil old) ∙ ap (λ (back : List ℕ). old ++ back) (sym is)
