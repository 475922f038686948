-- A loop over the buffers of a collection.
use Rattle.forest_steps.proofs.Common.{ℕ, ◌≡◌, ◌+◌, ◌<◌, ◌∙◌, zero, suc, ap, Bool, true, ◌||◌}
use Rattle.forest_steps.proofs.Common.{map, arith, list_any, range_with_len, or-true, ◌-◌}

-- the test of the next one, and of those after it
pub any_from : {A : Type 0} (test : A → Bool) (f : ℕ → A) (i n : ℕ) → i < n →
    list_any test (map f (range_with_len i (n - i)))
    ≡ (test (f i) || list_any test (map f (range_with_len (i + 1) (n - (i + 1)))))
any_from test f i n more = grind arith

-- one of them that passes
pub any_at : {A : Type 0} (test : A → Bool) (f : ℕ → A) (k n i : ℕ) → i < n → test (f (k + i)) ≡ true →
    list_any test (map f (range_with_len k n)) ≡ true
any_at test f k zero i less is = absurd (omega (arith, less))
any_at test f k (suc n) zero less is =
    let same : k + 0 ≡ k = omega arith in
    ap (λ b. b || list_any test (map f (range_with_len (k + 1) n))) (rw same at is)
any_at test f k (suc n) (suc i) less is =
    let same : k + suc i ≡ (k + 1) + i = omega arith in
    ap (λ b. test (f k) || b) (any_at test f (k + 1) n i (omega (arith, less)) (rw same at is))
    ∙ or-true (test (f k))
