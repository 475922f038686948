-- Intervals of as many pages that lie side by side among those in order of page.
use Rattle.buffer_pool.proofs.Common.{Contains, HasRun, Interval, List, [], arith, cases_Bool, cases_lt, end_of, false, get_or, in_order}
use Rattle.buffer_pool.proofs.Common.{in_run, inl, inr, length, mul-le-mul_left, ne_eqb, refl, subst, suc, suc-mul, sym, true, without}
use Rattle.buffer_pool.proofs.Common.{without_run, zero, ℕ, ◌*◌, ◌+◌, ◌<◌, ◌==◌, ◌∷◌, ◌≡◌, ◌≤◌}
use Rattle.buffer_pool.proofs.Orders.{first_in_order, in_order-at, in_order-cons, in_order-wider}

-- ---- what stays

-- those that stay are in order
in_order-without : (low high start : ℕ) (is : List Interval) → in_order low high is ≡ true → in_order low high (without start is) ≡ true
in_order-without low high start [] h = h
in_order-without low high start (i ∷ is) h =
    let f = first_in_order low high i is h in
    let r = in_order-without (end_of i) high start is f.rest in
    elim (cases_Bool (i.start == start)) [
      | inl e ↦ rw e (in_order-wider (end_of i) high low high (without start is) (omega (arith, f.from)) (omega arith) r)
      | inr n ↦ rw n (in_order-cons low high i (without start is) (record { from = f.from; has_pages = f.has_pages; rest = r }))
    ]

-- the removal of a run keeps the order, since each of its steps does
pub in_order-without_run : (low high start pages count : ℕ) (is : List Interval) → in_order low high is ≡ true →
    in_order low high (without_run start pages count is) ≡ true
in_order-without_run low high start pages zero is h = h
in_order-without_run low high start pages (suc n) is h =
    in_order-without low high (start + n * pages) (without_run start pages n is) (in_order-without_run low high start pages n is h)

-- an interval that begins elsewhere stays
without-keeps : (start : ℕ) (x : Interval) (is : List Interval) → (x.start == start) ≡ false → (k : ℕ) → k < length is → get_or is k x ≡ x →
    Contains (without start is) x
without-keeps start x [] other k lt at = absurd (omega arith)
without-keeps start x (i ∷ is) other zero lt at =
    subst (λ (y : Interval). Contains (without start (y ∷ is)) x) (sym at) (rw other (0, omega arith, refl))
without-keeps start x (i ∷ is) other (suc k) lt at =
    let r = without-keeps start x is other k (omega arith) at in
    elim (cases_Bool (i.start == start)) [
      | inl e ↦ rw e r
      | inr n ↦ rw n (suc r.0, omega (arith, r.1), r.2)
    ]

-- and one that stays was there
had-later : (x i : Interval) (is : List Interval) → Contains is x → Contains (i ∷ is) x
had-later x i is r = (suc r.0, omega (arith, r.1), r.2)

-- an interval that remains after a removal was there before it
without-had : (start : ℕ) (x : Interval) (is : List Interval) (k : ℕ) → k < length (without start is) → get_or (without start is) k x ≡ x →
    Contains is x
without-had start x [] k lt at = absurd (omega arith)
without-had start x (i ∷ is) k lt at =
    elim (cases_Bool (i.start == start)) [
      | inl e ↦ had-later x i is (without-had start x is k (rw e at lt) (rw e at at))
      | inr n ↦ kept k (rw n at lt) (rw n at at) (λ j. without-had start x is j)
    ]
  where
    -- by cases on the place: the first stays, and the others are found further on
    kept : (k : ℕ) → k < length (i ∷ without start is) → get_or (i ∷ without start is) k x ≡ x →
        ((j : ℕ) → j < length (without start is) → get_or (without start is) j x ≡ x → Contains is x) → Contains (i ∷ is) x
    kept zero lt at on = (0, omega arith, at)
    kept (suc k) lt at on = had-later x i is (on k (omega arith) at)

-- an interval that remains after the removal of a run was there before each of its steps
pub without_run-had : (start pages count : ℕ) (x : Interval) (is : List Interval) →
    Contains (without_run start pages count is) x → Contains is
    x
without_run-had start pages zero x is there = there
without_run-had start pages (suc n) x is there =
    without_run-had start pages n x is
    (without-had (start + n * pages) x (without_run start pages n is) there.0 there.1 there.2)

-- one that begins behind those that go stays
pub without_run-keeps : (start pages count : ℕ) (x : Interval) (is : List Interval) → 0 < pages → start + count * pages ≤ x.start →
    Contains is x → Contains (without_run start pages count is) x
without_run-keeps start pages zero x is some behind there = there
without_run-keeps start pages (suc n) x is some behind there =
    let more : suc n * pages ≡ n * pages + pages = suc-mul n pages in
    let r = without_run-keeps start pages n x is some (omega arith) there in
    without-keeps (start + n * pages) x (without_run start pages n is) (ne_eqb _ _ (λ same. absurd (omega arith))) r.0 r.1 r.2

-- ---- one more, and how many

-- a run with the next
pub HasRun-more : (start pages count : ℕ) (is : List Interval) → HasRun start pages count is → Contains is (in_run start pages count) →
    HasRun start pages (count + 1) is
HasRun-more start pages count is run next k lt =
    elim (cases_lt k count) [
      | inl less ↦ run k less
      | inr more ↦ let same : count ≡ k = omega arith in subst (λ n. Contains is (in_run start pages n)) same next
    ]

-- it ends where the pages end, or before
pub run-end : (start pages n size : ℕ) (is : List Interval) → in_order 0 size is ≡ true → HasRun start pages (suc n) is →
    (0 < pages) × (start + suc n * pages ≤ size)
run-end start pages n size is h run =
    let last = run n (omega arith) in
    let at = in_order-at 0 size is h last.0 (in_run start pages n) last.1 in
    let some : 0 < pages = rw last.2 at at.1 in
    let end : start + n * pages + pages ≤ size = rw last.2 at at.2 in
    (some, omega (arith, suc-mul n pages))

-- and has no more intervals than there are pages
pub run-few : (start pages count size : ℕ) (is : List Interval) → in_order 0 size is ≡ true → HasRun start pages count is → count ≤ size
run-few start pages zero size is h run = omega arith
run-few start pages (suc n) size is h run =
    let r = run-end start pages n size is h run in
    let few : suc n * 1 ≤ suc n * pages = mul-le-mul_left (suc n) r.0 in
    omega (arith, r.1)
