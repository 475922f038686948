-- The buffers of a set.
use Rattle.event_laws.proofs.Common.{Bool, List, MAX_BUFFERS, [], ap, arith, bit_at, common_steps, cond, false, filter, indices_below}
use Rattle.event_laws.proofs.Common.{indices_in, length, length-filter, range_with_len, suc, sym, true, zero, ℕ, ◌++◌, ◌+◌, ◌==◌, ◌∙◌}
use Rattle.event_laws.proofs.Common.{◌∷◌, ◌≡◌, ◌≤◌}
use Rattle.std.proofs.Common.{◌/◌, ◌%◌, ◌^◌}
use Rattle.std.proofs.lemmas.List.Sums.{count_by-le-length}
use Rattle.std.proofs.lemmas.List.FromFn.{length-range_with_len}
use Rattle.std.proofs.lemmas.Nat.{shr-shr}

-- this many numbers have no more buffers
pub below_most : (most set : ℕ) → length (indices_below most set) ≤ most
below_most most set =
    let p : ℕ → Bool = λ i. bit_at set i == 1 in
    omega (arith, length-filter p (range_with_len 0 most), count_by-le-length p (range_with_len 0 most), length-range_with_len 0 most)

-- nor has the set of all
pub indices_most : (set : ℕ) → length (indices_in set) ≤ MAX_BUFFERS
unfolding indices_in
indices_most set = below_most MAX_BUFFERS set

-- one more number
range-push : (a n : ℕ) → range_with_len a (n + 1) ≡ range_with_len a n ++ (a + n) ∷ []
range-push a zero = let e : a ≡ a + 0 = omega arith in ap (λ k. k ∷ []) e
range-push a (suc n) =
    let e : (a + 1) + n ≡ a + suc n = omega arith in
    let f : suc n + 1 ≡ suc (n + 1) = omega arith in
    ap (range_with_len a) f ∙ ap (λ l. a ∷ l) (range-push (a + 1) n ∙ ap (λ k. range_with_len (a + 1) n ++ k ∷ []) e)

-- one number more to look at adds one buffer, or none
pub below_push : (most set : ℕ) → length (indices_below (most + 1) set) ≡ length (indices_below most set) + cond (bit_at set most == 1) 1 0
below_push most set =
    let p : ℕ → Bool = λ i. bit_at set i == 1 in
    let e : 0 + most ≡ most = omega arith in
    ap (λ l. length (filter p l)) (range-push 0 most)
    ∙ (one_more p (range_with_len 0 most) (0 + most) ∙ ap (λ k. length (indices_below most set) + cond (bit_at set k == 1) 1 0) e)
  where
    -- by the rule for a filter of an append
    one_more : (p : ℕ → Bool) (xs : List ℕ) (x : ℕ) → length (filter p (xs ++ x ∷ [])) ≡ length (filter p xs) + cond (p x) 1 0
    one_more p xs x = grind (arith, common_steps)

-- where nothing is left of a set from a number on, nothing is from the next
pub rest_next : (set most : ℕ) → set / 2 ^ most ≡ 0 → set / 2 ^ (most + 1) ≡ 0
rest_next set most none = sym (shr-shr set most 1) ∙ ap (λ n. n / 2 ^ 1) none

-- and has no buffer of that number
pub rest_bit : (set most : ℕ) → set / 2 ^ most ≡ 0 → (bit_at set most == 1) ≡ false
rest_bit set most none = ap (λ n. n % 2 == 1) none

-- more numbers to look at add none
pub below_rest : (more most set : ℕ) → set / 2 ^ most ≡ 0 → length (indices_below most set) ≡ length (indices_below (most + more) set)
below_rest zero most set none = let same : most ≡ most + 0 = omega arith in ap (λ n. length (indices_below n set)) same
below_rest (suc more) most set none =
    let one = below_push most set in
    let count : Bool → ℕ = λ b. cond b 1 0 in
    let bit = ap count (rest_bit set most none) in
    let on = below_rest more (most + 1) set (rest_next set most none) in
    let next : (most + 1) + more ≡ most + suc more = omega arith in
    let whole = ap (λ n. length (indices_below n set)) next in
    omega (arith, one, bit, on, whole)

-- none, or this many: no more than as many as that
pub cond-le : (t : Bool) (n m : ℕ) → n ≤ m → cond t n 0 ≤ m
cond-le true n m le = le
cond-le false n m le = omega arith
