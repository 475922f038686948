-- How the holes change as an interval is given back.
use Rattle.buffer_pool.proofs.Common.{All, Bool, Contains, HasRun, Interval, IsPoolSound, List, MAX_PAGES, [], add-one, and_parts, ap}
use Rattle.buffer_pool.proofs.Common.{append-nil, arith, cases_Bool, cases_lt, end_of, eq-eqb, eqb-true, false, first_begins, gap, get_or}
use Rattle.buffer_pool.proofs.Common.{holes_from, holes_of, in_order, in_run, inl, inr, le-ltb, leb-true, length, lt-ltb, ltb-true}
use Rattle.buffer_pool.proofs.Common.{nat_lt, ne_eqb, not, refl, spaced, subst, suc, suc-mul, sum_by-cons, sym, total_pages, true}
use Rattle.buffer_pool.proofs.Common.{with_merged, with_released, without, without_run, zero, ℕ, ◌*◌, ◌++◌, ◌+◌, ◌-◌, ◌<◌, ◌==◌, ◌∙◌, ◌∷◌}
use Rattle.buffer_pool.proofs.Common.{◌≡◌, ◌≤◌}
use Rattle.std.proofs.Common.{◌&&◌}
use Rattle.std.proofs.lemmas.Bool.{not-true}
use Rattle.buffer_pool.proofs.Orders.{first_in_order, in_order-cons, in_order-wider, in_order-at, without-later}
use Rattle.buffer_pool.proofs.Keeping.{gaps_of, lists_of}
use Rattle.buffer_pool.proofs.Runs.{in_order-without_run, run-end, without_run-keeps}
use Rattle.buffer_pool.proofs.Spaces.{first_spaced, joined_apart}
use Rattle.buffer_pool.proofs.Gaps.{gap_some, gap_none, spaced-holes, length-holes}

-- no hole of those from a later page on begins at the page
begins-later : (page low : ℕ) (hs : List Interval) → page < low → spaced low hs ≡ true → first_begins page hs ≡ false
begins-later page low [] lt s = refl
begins-later page low (h ∷ hs) lt s = let f = first_spaced low h hs s in ne_eqb _ _ (λ e. absurd (omega (arith, f.from)))

-- what comes back before all holes is joined with the first, if they touch
released-first : (back : Interval) (low : ℕ) (hs : List Interval) → back.start < low → spaced low hs ≡ true →
    with_released back hs ≡ with_merged back hs
released-first back low [] lt s = refl
released-first back low (h ∷ hs) lt s =
    let f = first_spaced low h hs s in
    let behind : nat_lt (end_of h) back.start ≡ false = le-ltb _ _ (omega (arith, f.from)) in
    let apart : (end_of h == back.start) ≡ false = ne_eqb _ _ (λ e. absurd (omega (arith, f.from, f.has_pages))) in
    rw (behind, apart) refl

-- a gap that is joined with pages before it is a longer gap
joined-gap : (low pages end to : ℕ) (rest : List Interval) → 0 < pages → low + pages ≡ end → end ≤ to → first_begins end rest ≡ false →
    with_merged (record { start = low; pages = pages }) (gap end to ++ rest) ≡ gap low to ++ rest
joined-gap low pages end to rest some is le apart =
    let wide = gap_some low to (omega arith) in
    elim (cases_lt end to) [
      | inl more ↦
          let touch : (end == low + pages) ≡ true = eq-eqb _ _ (sym is) in
          let same : pages + (to - end) ≡ to - low = omega arith in
          rw (gap_some end to more, wide, touch, same) refl
      | inr none ↦
          let same : pages ≡ to - low = omega arith in
          let lone : first_begins (low + pages) rest ≡ false = rw is apart in
          rw (gap_none end to none, wide) (joined_apart (record { start = low; pages = pages }) rest lone
          ∙ (λ k. record { start = low; pages = same k } ∷ rest))
    ]

-- the pages before `end`, merged with the holes from `end` on, give the holes from `low` on
joined-holes : (low pages end size : ℕ) (is : List Interval) → 0 < pages → low + pages ≡ end → in_order end size is ≡ true →
    with_merged (record { start = low; pages = pages }) (holes_from end size is) ≡ holes_from low size is
joined-holes low pages end size [] some same h =
    let le : end ≤ size = leb-true _ _ h in simp append-nil at (joined-gap low pages end size [] some same le refl)
joined-holes low pages end size (i ∷ is) some same h =
    let f = first_in_order end size i is h in
    joined-gap low pages end i.start (holes_from (end_of i) size is) some same f.from
    (begins-later end (end_of i) (holes_from (end_of i) size is) (omega (arith, f.from, f.has_pages)) (spaced-holes (end_of i) size is
    f.rest))

-- the facts once the interval is given back
pub record GoesBack (low size : ℕ) (back : Interval) (is : List Interval) : Type 0 where
  pub holes : holes_from low size (without back.start is) ≡ with_released back (holes_from low size is)
  pub in_order : in_order low size (without back.start is) ≡ true
  pub pages : back.pages + total_pages (without back.start is) ≡ total_pages is
  pub fewer : length (without back.start is) + 1 ≡ length is

-- the first interval is given back
first_back : (low size : ℕ) (i : Interval) (is : List Interval) → in_order low size (i ∷ is) ≡ true → GoesBack low size i (i ∷ is)
first_back low size i is h =
    let f = first_in_order low size i is h in
    let rest : List Interval = holes_from (end_of i) size is in
    let spaced : spaced (end_of i) rest ≡ true = spaced-holes (end_of i) size is f.rest in
    let here : (i.start == i.start) ≡ true = eq-eqb _ _ refl in
    let later : without i.start is ≡ is = without-later i.start (end_of i) size is (omega (arith, f.has_pages)) f.rest in
    let gone : without i.start (i ∷ is) ≡ is = rw here later in
    let holes : with_released i (gap low i.start ++ rest) ≡ holes_from low size is =
    elim (cases_lt low i.start) [
      | inl some ↦
          let up : low + (i.start - low) ≡ i.start = omega arith in
          let behind : nat_lt (low + (i.start - low)) i.start ≡ false = le-ltb _ _ (omega arith) in
          let touch : ((low + (i.start - low)) == i.start) ≡ true = eq-eqb _ _ up in
          rw (gap_some low i.start some, behind, touch)
          (joined-holes low ((i.start - low) + i.pages) (end_of i) size is (omega (arith, f.has_pages)) (omega arith) f.rest)
      | inr none ↦
          let same : i.start ≡ low = omega (arith, f.from) in
          rw (gap_none low i.start none)
          (released-first i (end_of i) rest (omega (arith, f.has_pages)) spaced
          ∙ joined-holes i.start i.pages (end_of i) size is f.has_pages refl f.rest
          ∙ ap (λ n. holes_from n size is) same)
    ] in
    record {
      holes = ap (holes_from low size) gone ∙ sym holes;
      in_order = subst (λ xs. in_order low size xs ≡ true) (sym gone) (in_order-wider (end_of i) size low size is (omega (arith, f.from))
          (omega arith) f.rest);
      pages = ap (λ xs. i.pages + total_pages xs) gone ∙ sym (sum_by-cons (λ (x : Interval). x.pages) i is);
      fewer = ap (λ xs. length xs + 1) gone ∙ add-one (length is);
    }

-- a later interval is given back
later_back : (low size : ℕ) (back i : Interval) (is : List Interval) → in_order low size (i ∷ is) ≡ true → end_of i ≤ back.start →
    GoesBack (end_of i) size back is → GoesBack low size back (i ∷ is)
later_back low size back i is h from r =
    let f = first_in_order low size i is h in
    let rest : List Interval = holes_from (end_of i) size is in
    let other : (i.start == back.start) ≡ false = ne_eqb _ _ (λ same. absurd (omega (arith, f.has_pages))) in
    let stays : without back.start (i ∷ is) ≡ i ∷ without back.start is = rw other refl in
    let passes : with_released back (gap low i.start ++ rest) ≡ gap low i.start ++ with_released back rest =
    elim (cases_lt low i.start) [
      | inl some ↦
          let before : nat_lt (low + (i.start - low)) back.start ≡ true = lt-ltb _ _ (omega (arith, f.has_pages)) in
          rw (gap_some low i.start some, before) refl
      | inr none ↦ rw (gap_none low i.start none) refl
    ] in
    let more : total_pages (i ∷ is) ≡ i.pages + total_pages is = sum_by-cons (λ (x : Interval). x.pages) i is in
    let more' : total_pages (i ∷ without back.start is) ≡ i.pages + total_pages (without back.start is) =
    sum_by-cons (λ (x : Interval). x.pages) i (without back.start is) in
    let pages : back.pages + total_pages (i ∷ without back.start is) ≡ total_pages (i ∷ is) = omega (arith, r.pages) in
    let fewer : length (i ∷ without back.start is) + 1 ≡ length (i ∷ is) = omega (arith, r.fewer) in
    record {
      holes = ap (holes_from low size) stays ∙ ap (λ hs. gap low i.start ++ hs) r.holes ∙ sym passes;
      in_order = subst (λ xs. in_order low size xs ≡ true) (sym stays) (in_order-cons low size i (without back.start is)
          (record { from = f.from; has_pages = f.has_pages; rest = r.in_order }));
      pages = ap (λ xs. back.pages + total_pages xs) stays ∙ pages;
      fewer = ap (λ xs. length xs + 1) stays ∙ fewer;
    }

-- any interval of an order is given back
goes_back : (low size : ℕ) (back : Interval) (is : List Interval) → in_order low size is ≡ true → (k : ℕ) → k < length is →
    get_or is k back ≡ back → GoesBack low size back is
goes_back low size back [] h k lt at = absurd (omega arith)
goes_back low size back (i ∷ is) h zero lt at = subst (λ b. GoesBack low size b (i ∷ is)) at (first_back low size i is h)
goes_back low size back (i ∷ is) h (suc k) lt at =
    let f = first_in_order low size i is h in
    let within : k < length is = omega arith in
    let from : end_of i ≤ back.start = rw at at (in_order-at (end_of i) size is f.rest k back within).0 in
    later_back low size back i is h from (goes_back (end_of i) size back is f.rest k within at)

-- GoesBack is true of each held interval, since containment gives its place in the order
pub goes_back-of : (size : ℕ) (back : Interval) (is : List Interval) → in_order 0 size is ≡ true → Contains is back →
    GoesBack 0 size back is
goes_back-of size back is h there = goes_back 0 size back is h there.0 there.1 there.2

-- ---- intervals side by side go back

-- no hole begins at the page
none_begins : ℕ → List Interval → Bool
none_begins page [] = true
none_begins page (h ∷ hs) = not (h.start == page) && none_begins page hs

-- if no hole begins at the page, the first hole does not begin there either
none-first : (page : ℕ) (hs : List Interval) → none_begins page hs ≡ true → first_begins page hs ≡ false
unfolding none_begins
none-first page [] none = refl
none-first page (h ∷ hs) none = not-true (h.start == page) (and_parts (not (h.start == page)) _ none).0

-- so it is of holes from a later page on
none-later : (page low : ℕ) (hs : List Interval) → page < low → spaced low hs ≡ true → none_begins page hs ≡ true
unfolding none_begins
none-later page low [] lt s = refl
none-later page low (h ∷ hs) lt s =
    let f = first_spaced low h hs s in
    let other : (h.start == page) ≡ false = ne_eqb _ _ (λ e. absurd (omega (arith, f.from))) in
    rw other (none-later page (end_of h + 1) hs (omega (arith, f.from)) f.rest)

-- a gap that ends at or before the page begins before it, so it adds no hole that begins there
none-gap : (page low to : ℕ) (hs : List Interval) → to ≤ page → none_begins page hs ≡ true → none_begins page (gap low to ++ hs) ≡ true
unfolding none_begins
none-gap page low to hs le none =
    elim (cases_lt low to) [
      | inl some ↦
          let other : (low == page) ≡ false = ne_eqb _ _ (λ e. absurd (omega arith)) in
          rw (gap_some low to some, other) none
      | inr ends ↦ rw (gap_none low to ends) none
    ]

-- and where an interval is held
none-held : (low size : ℕ) (b : Interval) (is : List Interval) → in_order low size is ≡ true → (k : ℕ) → k < length is → get_or is k b ≡ b →
    none_begins b.start (holes_from low size is) ≡ true
none-held low size b [] h k lt at = absurd (omega arith)
none-held low size b (i ∷ is) h zero lt at =
    let f = first_in_order low size i is h in
    let same : i.start ≡ b.start = ap (λ (x : Interval). x.start) at in
    none-gap b.start low i.start (holes_from (end_of i) size is) (omega arith)
    (none-later b.start (end_of i) (holes_from (end_of i) size is) (omega (arith, f.has_pages)) (spaced-holes (end_of i) size is f.rest))
none-held low size b (i ∷ is) h (suc k) lt at =
    let f = first_in_order low size i is h in
    let within : k < length is = omega arith in
    let from : end_of i ≤ b.start = rw at at (in_order-at (end_of i) size is f.rest k b within).0 in
    none-gap b.start low i.start (holes_from (end_of i) size is) (omega arith) (none-held (end_of i) size b is f.rest k within at)

-- what comes back right behind a first hole makes it longer
released-behind : (hole next : Interval) (hs : List Interval) → next.start ≡ end_of hole →
    with_released next (hole ∷ hs) ≡ with_merged (record { start = hole.start; pages = hole.pages + next.pages }) hs
released-behind hole next hs same =
    let n : nat_lt (end_of hole) next.start ≡ false = le-ltb _ _ (omega arith) in
    let e : (end_of hole == next.start) ≡ true = eq-eqb _ _ (sym same) in
    rw (n, e) refl

-- pages that come back side by side come back as one
released-twice : (first next : Interval) (hs : List Interval) → next.start ≡ end_of first → none_begins next.start hs ≡ true →
    with_released next (with_released first hs) ≡ with_released (record { start = first.start; pages = first.pages + next.pages }) hs
unfolding none_begins
released-twice first next [] same none = released-behind first next [] same
released-twice first next (h ∷ hs) same none =
    let p = and_parts (not (h.start == next.start)) _ none in
    elim (cases_Bool (nat_lt (end_of h) first.start)) [
      | inl y ↦
          let less : end_of h < first.start = ltb-true _ _ y in
          let before : nat_lt (end_of h) next.start ≡ true = lt-ltb _ _ (omega arith) in
          rw (y, before) (ap (λ r. h ∷ r) (released-twice first next hs same p.1))
      | inr n ↦ elim (cases_Bool (end_of h == first.start)) [
        | inl e ↦
            let end : end_of h ≡ first.start = eqb-true _ _ e in
            let hole : Interval = record { start = h.start; pages = h.pages + first.pages } in
            let last : next.start ≡ end_of hole = omega arith in
            let apart : first_begins (end_of hole) hs ≡ false = subst (λ page. first_begins page hs ≡ false) last
            (none-first next.start hs p.1) in
            let sum : h.pages + first.pages + next.pages ≡ h.pages + (first.pages + next.pages) = omega arith in
            rw (n, e)
            (ap (with_released next) (joined_apart hole hs apart) ∙ released-behind hole next hs last
            ∙ ap (λ (pages : ℕ). with_merged (record { start = h.start; pages = pages }) hs) sum)
        | inr m ↦
            let apart : first_begins (end_of first) (h ∷ hs) ≡ false = subst (λ page. first_begins page (h ∷ hs) ≡ false) same
            (none-first next.start (h ∷ hs) none) in
            rw (n, m) (ap (with_released next) (joined_apart first (h ∷ hs) apart) ∙ released-behind first next (h ∷ hs) same)
      ]
    ]

-- the facts once they are given back
pub record RunGoesBack (size start each count : ℕ) (is : List Interval) : Type 0 where
  pub holes : holes_of size (without_run start each count is)
      ≡ with_released (record { start = start; pages = count * each }) (holes_of size is)
  pub pages : count * each + total_pages (without_run start each count is) ≡ total_pages is
  pub fewer : length (without_run start each count is) + count ≡ length is

-- by induction on the count: each buffer that is released merges with those before it
run_back : (size start pages n : ℕ) (is : List Interval) → in_order 0 size is ≡ true → HasRun start pages (suc n) is →
    RunGoesBack size start pages (suc n) is
run_back size start pages zero is h run =
    let g = goes_back-of size (in_run start pages 0) is h (run 0 (omega arith)) in
    let place : start + 0 * pages ≡ start = omega arith in
    let all : pages ≡ 1 * pages = omega arith in
    record {
      holes = g.holes ∙ (λ i. with_released (record { start = place i; pages = all i }) (holes_of size is));
      pages = omega (arith, g.pages);
      fewer = g.fewer;
    }
run_back size start pages (suc n) is h run =
    let r = run_back size start pages n is h (λ k lt. run k (omega arith)) in
    let some : 0 < pages = (run-end start pages (suc n) size is h run).0 in
    let last : Interval = in_run start pages (suc n) in
    let there : Contains is last = run (suc n) (omega arith) in
    let left : List Interval = without_run start pages (suc n) is in
    let g = goes_back-of size last left (in_order-without_run 0 size start pages (suc n) is h)
    (without_run-keeps start pages (suc n) last is some (omega arith) there) in
    let more : suc (suc n) * pages ≡ suc n * pages + pages = suc-mul (suc n) pages in
    record {
      holes = g.holes ∙ ap (with_released last) r.holes
          ∙ released-twice (record { start = start; pages = suc n * pages }) last (holes_of size is) refl
          (none-held 0 size last is h there.0 there.1 there.2)
          ∙ ap (λ (all : ℕ). with_released (record { start = start; pages = all }) (holes_of size is)) (sym more);
      pages = omega (arith, r.pages, g.pages);
      fewer = omega (arith, r.fewer, g.fewer);
    }

-- what the fields give for intervals that go back, and keep
pub record KeepsBack (size free : ℕ) (holes held : List Interval) (capacity start pages count : ℕ) : Type 0 where
  pub inside : start + count * pages ≤ size
  pub some : 1 ≤ pages
  pub spaced : spaced 0 holes ≡ true
  pub few : length holes ≤ MAX_PAGES
  pub fits : All (λ (h : Interval). end_of h < 4294967296) holes
  pub back_fits : start + count * pages < 4294967296
  pub room : length (with_released (record { start = start; pages = count * pages }) holes) ≤ capacity
  pub fewer : length (without_run start pages count held) + count ≡ length held
  pub kept : IsPoolSound size (free + count * pages) (with_released (record { start = start; pages = count * pages }) holes)
      (without_run start pages count held) capacity

-- the release of a run of at least one buffer keeps the pool sound and within its capacity
keeps_more : (size free : ℕ) (holes held : List Interval) (capacity start pages n : ℕ) → IsPoolSound size free holes held capacity →
    HasRun start pages (suc n) held → KeepsBack size free holes held capacity start pages (suc n)
keeps_more size free holes held capacity start pages n k run =
    let back : Interval = record { start = start; pages = suc n * pages } in
    let left : List Interval = without_run start pages (suc n) held in
    let order : in_order 0 size left ≡ true = in_order-without_run 0 size start pages (suc n) held k.in_order in
    let g = run_back size start pages n held k.in_order run in
    let e = run-end start pages n size held k.in_order run in
    let end : start + suc n * pages ≤ size = e.1 in
    let released_is : with_released back holes ≡ holes_of size left = ap (with_released back) k.holes_are ∙ sym g.holes in
    let fewer = (length-holes 0 size left order).1 in
    let lists = lists_of size holes held (gaps_of size free holes held capacity k) in
    let small = k.sized.1 in
    record {
      inside = end;
      some = omega (arith, e.0);
      spaced = subst (λ hs. spaced 0 hs ≡ true) (sym k.holes_are) (spaced-holes 0 size held k.in_order);
      few = lists.few;
      fits = λ j d less. (lists.sane j d less).1;
      back_fits = omega arith;
      room = subst (λ hs. length hs ≤ capacity) (sym released_is) (omega (arith, g.fewer, k.has_capacity));
      fewer = g.fewer;
      kept = record {
        sized = k.sized;
        in_order = order;
        holes_are = released_is;
        free_are = omega (arith, g.pages, k.free_are);
        has_capacity = omega (arith, g.fewer, k.has_capacity);
      };
    }

-- a count of at least one is a successor, so the lemma above applies to it
pub keeps_back : (size free : ℕ) (holes held : List Interval) (capacity start pages count : ℕ) → 1 ≤ count →
    IsPoolSound size free holes held capacity → HasRun start pages count held → KeepsBack size free holes held capacity start pages count
keeps_back size free holes held capacity start pages zero some k run = absurd (omega arith)
keeps_back size free holes held capacity start pages (suc n) some k run =
    keeps_more size free holes held capacity start pages n k run
