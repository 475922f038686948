-- The holes between intervals in order of page.
use Rattle.buffer_pool.proofs.Common.{Interval, List, [], arith, cases_lt, div-eq_of_lt, end_of, eq-eqb, false, first_fit, gap, get_or}
use Rattle.buffer_pool.proofs.Common.{holes_from, in_order, inl, inr, le-ltb, length, lt-ltb, nat_lt, ne_eqb, prefix_len, refl, rooms}
use Rattle.buffer_pool.proofs.Common.{shortened, spaced, suc, sum_by-cons, taken, too_small, true, zero, ℕ, ◌++◌, ◌+◌, ◌-◌, ◌/◌, ◌<◌}
use Rattle.buffer_pool.proofs.Common.{◌==◌, ◌∙◌, ◌∷◌, ◌≡◌, ◌≤◌}
use Rattle.buffer_pool.proofs.Orders.{first_in_order, in_order-low-le}
use Rattle.buffer_pool.proofs.Spaces.{spaced-cons, spaced-earlier}

-- a gap with pages is one interval, and one without is none
pub gap_some : (from to : ℕ) → from < to → gap from to ≡ record { start = from; pages = to - from } ∷ []
gap_some from to lt = let y : nat_lt from to ≡ true = lt-ltb _ _ lt in rw y refl

-- a gap that ends no later than it begins is the empty list
pub gap_none : (from to : ℕ) → to ≤ from → gap from to ≡ []
gap_none from to le = let n : nat_lt from to ≡ false = le-ltb _ _ le in rw n refl

-- holes of intervals in order are spaced
spaced_behind : (low to next : ℕ) (rest : List Interval) → low ≤ to → to < next → spaced next rest ≡ true →
    spaced low (gap low to ++ rest) ≡ true
spaced_behind low to next rest le lt s =
    elim (cases_lt low to) [
      | inl some ↦
          rw (gap_some low to some)
          (spaced-cons low (record { start = low; pages = to - low }) rest
          (record { from = omega arith; has_pages = omega arith; rest = spaced-earlier next (low + (to - low) + 1) rest (omega arith) s }))
      | inr none ↦ rw (gap_none low to none) (spaced-earlier next low rest (omega arith) s)
    ]

-- by induction: each interval has a page, so the holes on its two sides do not touch
pub spaced-holes : (low size : ℕ) (is : List Interval) → in_order low size is ≡ true → spaced low (holes_from low size is) ≡ true
spaced-holes low size [] h =
    elim (cases_lt low size) [
      | inl some ↦
          rw (gap_some low size some)
          (spaced-cons low (record { start = low; pages = size - low }) []
          (record { from = omega arith; has_pages = omega arith; rest = refl }))
      | inr none ↦ rw (gap_none low size none) refl
    ]
spaced-holes low size (i ∷ is) h =
    let f = first_in_order low size i is h in
    spaced_behind low i.start (end_of i) (holes_from (end_of i) size is) f.from (omega (arith, f.has_pages)) (spaced-holes (end_of i) size
    is f.rest)

-- each hole lies in the pool
pub holes-end : (low size : ℕ) (is : List Interval) → in_order low size is ≡ true → (k : ℕ) (d : Interval) →
    k < length (holes_from low size is) → end_of (get_or (holes_from low size is) k d) ≤ size
holes-end low size [] h k d lt =
    elim (cases_lt low size) [
      | inl some ↦ rw (gap_some low size some) (one k (rw (gap_some low size some) at lt) some)
      | inr none ↦ let no : k < 0 = rw (gap_none low size none) at lt in absurd (omega arith)
    ]
  where
    -- by cases on the place: the one hole ends with the pool
    one : (k : ℕ) → k < length {A = Interval} (record { start = low; pages = size - low } ∷ []) → low < size →
        end_of (get_or {A = Interval} (record { start = low; pages = size - low } ∷ []) k d) ≤ size
    one zero lt some = omega arith
    one (suc k) lt some = absurd (omega arith)
holes-end low size (i ∷ is) h k d lt =
    let f = first_in_order low size i is h in
    let later : end_of i ≤ size = in_order-low-le (end_of i) size is f.rest in
    elim (cases_lt low i.start) [
      | inl some ↦ rw (gap_some low i.start some) (more k (rw (gap_some low i.start some) at lt) some later (λ k lt.
          holes-end (end_of i) size is f.rest k d lt))
      | inr none ↦ rw (gap_none low i.start none) (holes-end (end_of i) size is f.rest k d (rw (gap_none low i.start none) at lt))
    ]
  where
    -- by cases on the place: the first hole ends before an interval, and the others are further on
    more : (k : ℕ) → k < length {A = Interval} (record { start = low; pages = i.start - low } ∷ holes_from (end_of i) size is) →
        low < i.start → end_of i ≤ size → ((k : ℕ) → k < length (holes_from (end_of i) size is) →
        end_of (get_or (holes_from (end_of i) size is) k d) ≤ size) →
        end_of (get_or {A = Interval} (record { start = low; pages = i.start - low } ∷ holes_from (end_of i) size is) k d) ≤ size
    more zero lt some later rest = omega arith
    more (suc k) lt some later rest = rest k (omega arith)

-- there are at most as many holes as pages, and at most one more than intervals
pub length-holes : (low size : ℕ) (is : List Interval) → in_order low size is ≡ true → (low + length (holes_from low size is) ≤ size) ×
    (length (holes_from low size is) ≤ length is + 1)
length-holes low size [] h =
    let le : low ≤ size = in_order-low-le low size [] h in
    elim (cases_lt low size) [
      | inl some ↦ rw (gap_some low size some) (omega arith, omega arith)
      | inr none ↦ rw (gap_none low size none) (omega arith, omega arith)
    ]
length-holes low size (i ∷ is) h =
    let f = first_in_order low size i is h in
    let r = length-holes (end_of i) size is f.rest in
    elim (cases_lt low i.start) [
      | inl some ↦ rw (gap_some low i.start some) (omega (arith, f.from, f.has_pages, r.0), omega (arith, r.1))
      | inr none ↦ rw (gap_none low i.start none) (omega (arith, f.from, f.has_pages, r.0), omega (arith, r.1))
    ]

-- a gap that is long enough is the first fit
pub gap_fits : (low to pages : ℕ) (rest : List Interval) → 1 ≤ pages → low + pages ≤ to → (first_fit pages (gap low to ++ rest) ≡ low) ×
    (taken pages (gap low to ++ rest) ≡ gap (low + pages) to ++ rest) ×
    (prefix_len (too_small pages) (gap low to ++ rest) < length (gap low to ++ rest))
gap_fits low to pages rest one fits =
    let hole : Interval = record { start = low; pages = to - low } in
    let n : nat_lt (to - low) pages ≡ false = le-ltb _ _ (omega arith) in
    rw (gap_some low to (omega arith), n) (refl, left, omega arith)
  where
    -- by cases: what is left of the gap is the gap behind, or nothing if the whole gap was taken
    left : shortened pages (record { start = low; pages = to - low }) rest ≡ gap (low + pages) to ++ rest
    left =
        elim (cases_lt (low + pages) to) [
          | inl some ↦
              let other : ((to - low) == pages) ≡ false = ne_eqb _ _ (λ e. absurd (omega arith)) in
              let same : to - low - pages ≡ to - (low + pages) = omega arith in
              rw (gap_some (low + pages) to some, other, same) refl
          | inr none ↦
              let whole : ((to - low) == pages) ≡ true = eq-eqb _ _ (omega arith) in
              rw (gap_none (low + pages) to none, whole) refl
        ]

-- what a gap that is not long enough leaves to those behind it
pub record Passes (low to pages : ℕ) (rest : List Interval) : Type 0 where
  pub first_fit : first_fit pages (gap low to ++ rest) ≡ first_fit pages rest
  pub taken : taken pages (gap low to ++ rest) ≡ gap low to ++ taken pages rest
  pub some : prefix_len (too_small pages) rest < length rest →
      prefix_len (too_small pages) (gap low to ++ rest) < length (gap low to ++ rest)
  pub rooms : rooms pages (gap low to ++ rest) ≡ rooms pages rest

-- first fit skips a gap that is too small, and such a gap adds no room
pub gap_passes : (low to pages : ℕ) (rest : List Interval) → 1 ≤ pages → low ≤ to → to < low + pages → Passes low to pages rest
gap_passes low to pages rest one le small =
    elim (cases_lt low to) [
      | inl some ↦
          let y : nat_lt (to - low) pages ≡ true = lt-ltb _ _ (omega arith) in
          let g = gap_some low to some in
          let hole : Interval = record { start = low; pages = to - low } in
          let few : to - low < pages = omega arith in
          let none : (to - low) / pages ≡ 0 = div-eq_of_lt few in
          record {
            first_fit = rw (g, y) refl;
            taken = rw (g, y) refl;
            some = λ lt. rw (g, y) (omega arith);
            rooms = rw g (sum_by-cons (λ (h : Interval). h.pages / pages) hole rest ∙ rw none (omega arith));
          }
      | inr none ↦
          let g = gap_none low to none in
          record { first_fit = rw g refl; taken = rw g refl; some = λ lt. rw g lt; rooms = rw g refl }
    ]
