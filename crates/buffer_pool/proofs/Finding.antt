-- Searches among blocks.
use Rattle.buffer_pool.proofs.Common.{All, Interval, IsNonDecreasingBy, List, [], all_in, ap, arith, cases_lt, drop, drop_all, false}
use Rattle.buffer_pool.proofs.Common.{get_or, inl, inr, le-ltb, length, lt-ltb, nat_lt, prefix_len, prefix_len-le-length, prefix_len_is}
use Rattle.buffer_pool.proofs.Common.{sym, take, true, ℕ, ◌+◌, ◌-◌, ◌<◌, ◌∙◌, ◌≡◌, ◌≤◌}
use Rattle.std.proofs.lemmas.List.Sums.{prefix_len_passes, prefix_len_stops}
use Rattle.buffer_pool.proofs.Joins.{get_in, before-next, within-all}

-- the first interval of `low` is below the page, and that of the block behind `high` is not
pub record IsBlockSearch (f : Interval → ℕ) (page low high : ℕ) (L : List (List Interval)) : Type 0 where
  pub order : low ≤ high
  pub last : high ≤ length L - 1
  pub below : (d : Interval) → 0 < low → f (get_or (get_or L low []) 0 d) < page
  pub above : (d : Interval) → high + 1 < length L → page ≤ f (get_or (get_or L (high + 1) []) 0 d)

-- the starts of a block rise as those of the whole
pub rises-in : (f : Interval → ℕ) (L : List (List Interval)) (b : ℕ) → b < length L → IsNonDecreasingBy f (all_in L) →
    IsNonDecreasingBy f (get_or L b [])
rises-in f L b lt up j k d le within =
    let P : ℕ = length (all_in (take b L)) in
    let whole = within-all L b lt in
    let r : f (get_or (all_in L) (P + j) d) ≤ f (get_or (all_in L) (P + k) d) = up (P + j) (P + k) d (omega arith) (omega arith) in
    let at_j : f (get_or (get_or L b []) j d) ≡ f (get_or (all_in L) (P + j) d) = ap f (get_in L b j d lt (omega arith)) in
    let at_k : f (get_or (get_or L b []) k d) ≡ f (get_or (all_in L) (P + k) d) = ap f (get_in L b k d lt within) in
    omega arith

-- the place in a block is the place of all
pub found-in : (f : Interval → ℕ) (page b : ℕ) (L : List (List Interval)) → b < length L → All (λ (B : List Interval). 0 < length B) L →
    IsNonDecreasingBy f (all_in L) → ((d : Interval) → 0 < b → f (get_or (get_or L b []) 0 d) < page) →
    ((d : Interval) → b + 1 < length L → page ≤ f (get_or (get_or L (b + 1) []) 0 d)) →
    length (all_in (take b L)) + prefix_len (λ (i : Interval). nat_lt (f i) page) (get_or L b [])
    ≡ prefix_len (λ (i : Interval). nat_lt (f i) page) (all_in L)
found-in f page b L lt some up below above =
    let p = λ (i : Interval). nat_lt (f i) page in
    let P : ℕ = length (all_in (take b L)) in
    let B : List Interval = get_or L b [] in
    let n : ℕ = prefix_len p B in
    let none : Interval = record { start = 0; pages = 0 } in
    let whole = within-all L b lt in
    let short : n ≤ length B = prefix_len-le-length p B in
    let full : 0 < length B = some b [] lt in
    let passes : (k : ℕ) → k < P + n → p (get_or (all_in L) k none) ≡ true =
    λ k less. elim (cases_lt k P) [
      | inl before ↦ elim (cases_lt 0 b) [
        | inl later ↦
            let r : f (get_or (all_in L) k none) ≤ f (get_or (all_in L) (P + 0) none) = up k (P + 0) none (omega arith) (omega arith) in
            let s : f (get_or B 0 none) ≡ f (get_or (all_in L) (P + 0) none) = ap f (get_in L b 0 none lt full) in
            let first : f (get_or B 0 none) < page = below none later in
            lt-ltb _ _ (omega arith)
        | inr zero ↦
            let z : b ≡ 0 = omega arith in
            let empty : P ≡ 0 = ap (λ k. length (all_in (take k L))) z in absurd (omega arith)
      ]
      | inr in_it ↦
          let o : ℕ = k - P in
          let place : P + o ≡ k = omega arith in
          let pass : p (get_or B o none) ≡ true = prefix_len_passes p B o none (omega arith) in
          let same : get_or B o none ≡ get_or (all_in L) k none =
          get_in L b o none lt (omega arith) ∙ ap (λ m. get_or (all_in L) m none) place in
          sym (ap p same) ∙ pass
    ] in
    let stops : P + n < length (all_in L) → p (get_or (all_in L) (P + n) none) ≡ false =
    λ more. elim (cases_lt n (length B)) [
      | inl inside ↦ sym (ap p (get_in L b n none lt inside)) ∙ prefix_len_stops p B none inside
      | inr past ↦
          let next = before-next L b lt in
          elim (cases_lt (b + 1) (length L)) [
            | inl later ↦
                let one : 0 < length (get_or L (b + 1) []) = some (b + 1) [] later in
                let place : length (all_in (take (b + 1) L)) + 0 ≡ P + n = omega arith in
                let same : get_or (get_or L (b + 1) []) 0 none ≡ get_or (all_in L) (P + n) none =
                get_in L (b + 1) 0 none later one ∙ ap (λ m. get_or (all_in L) m none) place in
                sym (ap p same) ∙ le-ltb _ _ (above none later)
            | inr last ↦
                let end : drop (b + 1) L ≡ [] = drop_all (b + 1) L last in
                let nothing : length (all_in (drop (b + 1) L)) ≡ 0 = ap (λ (r : List (List Interval)). length (all_in r)) end in
                absurd (omega arith)
          ]
    ] in
    sym (prefix_len_is p (all_in L) (P + n) none (omega arith) passes stops)
