-- A search by halves among intervals in order of some number.
use Rattle.buffer_pool.proofs.Common.{Interval, IsNonDecreasingBy, List, ap, arith, get_or, get_or_default, le-ltb, length, lt-ltb}
use Rattle.buffer_pool.proofs.Common.{nat_lt, prefix_len, prefix_len_is, sym, ℕ, ◌+◌, ◌<◌, ◌∙◌, ◌≡◌, ◌≤◌}

-- those before `low` are below the page, and the one at `high` is not
pub record IsSearch (f : Interval → ℕ) (page low high : ℕ) (xs : List Interval) : Type 0 where
  pub order : low ≤ high
  pub within : high ≤ length xs
  pub below : (k : ℕ) (d : Interval) → k < low → f (get_or xs k d) < page
  pub above : (d : Interval) → high < length xs → page ≤ f (get_or xs high d)

-- if the middle lies below the page, so do all before it, and the search continues behind it
pub search_upper : (f : Interval → ℕ) (page low high middle : ℕ) (xs : List Interval) (x : Interval) → IsNonDecreasingBy f xs →
    low ≤ middle → middle < high → x ≡ get_or xs middle x → f x < page → IsSearch f page low high xs → IsSearch f page (middle + 1) high xs
search_upper f page low high middle xs x up le lt is less s =
    record {
      order = omega arith;
      within = s.within;
      below = λ k d before.
          let in_it : middle < length xs = omega (arith, s.within) in
          let rises : f (get_or xs k d) ≤ f (get_or xs middle d) = up k middle d (omega arith) in_it in
          let same : f x ≡ f (get_or xs middle d) = ap f (is ∙ get_or_default xs middle x d in_it) in
          omega arith;
      above = s.above;
    }

-- where the two bounds meet, they count the intervals below the page
pub search_ends : (f : Interval → ℕ) (page low high : ℕ) (xs : List Interval) → high ≤ low → IsSearch f page low high xs →
    low ≡ prefix_len (λ (i : Interval). nat_lt (f i) page) xs
search_ends f page low high xs le s =
    let same : low ≡ high = omega (arith, s.order) in
    let none : Interval = record { start = 0; pages = 0 } in
    sym (prefix_len_is (λ (i : Interval). nat_lt (f i) page) xs low none (omega (arith, s.within))
    (λ k lt. lt-ltb _ _ (s.below k none lt))
    (λ lt. let stops : page ≤ f (get_or xs low none) = rw same (s.above none (omega arith)) in le-ltb _ _ stops))
