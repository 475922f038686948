-- Buffers side by side, one more and the others.
use Rattle.buffer_pool.proofs.Common.{List, [], ap, append_assoc, arith, length, refl, run_starts, suc, suc-mul, sym, zero, ℕ, ◌*◌, ◌++◌}
use Rattle.buffer_pool.proofs.Common.{◌+◌, ◌-◌, ◌<◌, ◌∙◌, ◌∷◌, ◌≡◌}

-- a start that is pushed is the first of a run, and the starts of the others follow it
pub starts_pushed : (xs : List ℕ) (next pages left rest : ℕ) → left ≡ suc rest →
    (xs ++ next ∷ []) ++ run_starts (next + pages) pages rest ≡ xs ++ run_starts next pages left
starts_pushed xs next pages left rest is =
    append_assoc xs (next ∷ []) (run_starts (next + pages) pages rest) ∙ ap (λ n. xs ++ run_starts next pages n) (sym is)

-- this many pages, one time and the others
pub one_more : (n pages : ℕ) → 0 < n → n * pages ≡ (n - 1) * pages + pages
one_more zero pages some = absurd (omega arith)
one_more (suc n) pages some = let less : suc n - 1 ≡ n = omega arith in suc-mul n pages ∙ ap (λ k. k * pages + pages) (sym less)

-- each buffer has a start
pub length-run : (start pages n : ℕ) → length (run_starts start pages n) ≡ n
length-run start pages zero = refl
length-run start pages (suc n) = let r = length-run (start + pages) pages n in omega (arith, r)
