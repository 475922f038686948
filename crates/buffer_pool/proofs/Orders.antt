-- Intervals in order of page.
use Rattle.buffer_pool.proofs.Common.{Interval, List, [], and_from, and_parts, ap, arith, cases_Bool, end_of, false, get_or, in_order}
use Rattle.buffer_pool.proofs.Common.{inl, inr, le-leb, leb-true, length, lt-ltb, ltb-true, nat_le, nat_lt, ne_eqb, refl, suc}
use Rattle.buffer_pool.proofs.Common.{sum_by-cons, total_pages, true, with_interval, without, zero, ℕ, ◌+◌, ◌<◌, ◌==◌, ◌∷◌, ◌≡◌, ◌≤◌}

-- the parts of an order with a first interval
pub record IsFirst (low high : ℕ) (i : Interval) (is : List Interval) : Type 0 where
  pub from : low ≤ i.start
  pub has_pages : 0 < i.pages
  pub rest : in_order (end_of i) high is ≡ true

-- the test of an order gives what it asks of the first interval and of the rest
pub first_in_order : (low high : ℕ) (i : Interval) (is : List Interval) → in_order low high (i ∷ is) ≡ true → IsFirst low high i is
first_in_order low high i is h =
    let p = and_parts (nat_le low i.start) _ h in
    let q = and_parts (nat_lt 0 i.pages) _ p.1 in
    record { from = leb-true _ _ p.0; has_pages = ltb-true _ _ q.0; rest = q.1 }

-- the converse: an interval before an order that begins at its end makes an order
pub in_order-cons : (low high : ℕ) (i : Interval) (is : List Interval) → IsFirst low high i is → in_order low high (i ∷ is) ≡ true
in_order-cons low high i is f =
    and_from (nat_le low i.start) _ (le-leb _ _ f.from) (and_from (nat_lt 0 i.pages) _ (lt-ltb _ _ f.has_pages) f.rest)

-- the ends of an order lie apart
pub in_order-low-le : (low high : ℕ) (is : List Interval) → in_order low high is ≡ true → low ≤ high
in_order-low-le low high [] h = leb-true _ _ h
in_order-low-le low high (i ∷ is) h =
    let f = first_in_order low high i is h in
    let r = in_order-low-le (end_of i) high is f.rest in omega (arith, f.from)

-- an order may begin earlier, and end later
pub in_order-wider : (low high low' high' : ℕ) (is : List Interval) → low' ≤ low → high ≤ high' → in_order low high is ≡ true →
    in_order low' high' is ≡ true
in_order-wider low high low' high' [] l u h = let r : low ≤ high = leb-true _ _ h in le-leb _ _ (omega arith)
in_order-wider low high low' high' (i ∷ is) l u h =
    let f = first_in_order low high i is h in
    in_order-cons low' high' i is
    (record {
      from = omega (arith, f.from);
      has_pages = f.has_pages;
      rest = in_order-wider (end_of i) high (end_of i) high' is (omega arith) u f.rest;
    })

-- where each interval of an order lies
pub in_order-at : (low high : ℕ) (is : List Interval) → in_order low high is ≡ true → (k : ℕ) (d : Interval) → k < length is →
    (low ≤ (get_or is k d).start) × (0 < (get_or is k d).pages) × (end_of (get_or is k d) ≤ high)
in_order-at low high [] h k d lt = absurd (omega arith)
in_order-at low high (i ∷ is) h zero d lt =
    let f = first_in_order low high i is h in
    (f.from, f.has_pages, in_order-low-le (end_of i) high is f.rest)
in_order-at low high (i ∷ is) h (suc k) d lt =
    let f = first_in_order low high i is h in
    let within : k < length is = omega arith in
    let r = in_order-at (end_of i) high is f.rest k d within in
    (omega (arith, f.from, r.0), r.1, r.2)

-- one interval ends before a later one begins
pub in_order-apart : (low high : ℕ) (is : List Interval) → in_order low high is ≡ true → (j k : ℕ) (d : Interval) → j < k → k < length is →
    end_of (get_or is j d) ≤ (get_or is k d).start
in_order-apart low high [] h j k d less lt = absurd (omega arith)
in_order-apart low high (i ∷ is) h j zero d less lt = absurd (omega arith)
in_order-apart low high (i ∷ is) h zero (suc k) d less lt =
    let f = first_in_order low high i is h in
    let within : k < length is = omega arith in
    (in_order-at (end_of i) high is f.rest k d within).0
in_order-apart low high (i ∷ is) h (suc j) (suc k) d less lt =
    let f = first_in_order low high i is h in
    let within : k < length is = omega arith in
    let before : j < k = omega arith in
    in_order-apart (end_of i) high is f.rest j k d before within

-- the intervals of an order have no more pages than there are
pub pages_in-le : (low high : ℕ) (is : List Interval) → in_order low high is ≡ true → low + total_pages is ≤ high
pages_in-le low high [] h = let r : low ≤ high = leb-true _ _ h in let n : total_pages [] ≡ 0 = refl in omega arith
pages_in-le low high (i ∷ is) h =
    let f = first_in_order low high i is h in
    let r : end_of i + total_pages is ≤ high = pages_in-le (end_of i) high is f.rest in
    let s : total_pages (i ∷ is) ≡ i.pages + total_pages is = sum_by-cons (λ (i : Interval). i.pages) i is in
    omega (arith, f.from)

-- one more interval has its pages
pub pages_in-with_interval : (new : Interval) (is : List Interval) → total_pages (with_interval new is) ≡ new.pages + total_pages is
pages_in-with_interval new [] = sum_by-cons (λ (i : Interval). i.pages) new []
pages_in-with_interval new (i ∷ is) =
    let s : total_pages (i ∷ is) ≡ i.pages + total_pages is = sum_by-cons (λ (i : Interval). i.pages) i is in
    elim (cases_Bool (nat_lt i.start new.start)) [
      | inl y ↦
          let r : total_pages (with_interval new is) ≡ new.pages + total_pages is = pages_in-with_interval new is in
          let t : total_pages (i ∷ with_interval new is) ≡ i.pages + total_pages (with_interval new is) =
          sum_by-cons (λ (i : Interval). i.pages) i (with_interval new is) in
          rw y (omega arith)
      | inr n ↦ rw n (sum_by-cons (λ (i : Interval). i.pages) new (i ∷ is))
    ]

-- one more interval
pub length-with_interval : (new : Interval) (is : List Interval) → length (with_interval new is) ≡ suc (length is)
length-with_interval new [] = refl
length-with_interval new (i ∷ is) =
    elim (cases_Bool (nat_lt i.start new.start)) [
      | inl y ↦ rw y (ap suc (length-with_interval new is))
      | inr n ↦ rw n refl
    ]

-- what begins later stays
pub without-later : (start low high : ℕ) (is : List Interval) → start < low → in_order low high is ≡ true → without start is ≡ is
without-later start low high [] lt h = refl
without-later start low high (i ∷ is) lt h =
    let f = first_in_order low high i is h in
    let other : (i.start == start) ≡ false = ne_eqb _ _ (λ e. absurd (omega (arith, f.from))) in
    let later : start < end_of i = omega (arith, f.from) in
    rw other (ap (λ r. i ∷ r) (without-later start (end_of i) high is later f.rest))

-- each interval of an order has a page
pub length-le : (low high : ℕ) (is : List Interval) → in_order low high is ≡ true → low + length is ≤ high
length-le low high [] h = let r : low ≤ high = leb-true _ _ h in omega arith
length-le low high (i ∷ is) h =
    let f = first_in_order low high i is h in
    let r : end_of i + length is ≤ high = length-le (end_of i) high is f.rest in
    omega (arith, f.from, f.has_pages)
