-- The least start with room is that of the first hole that is long enough.
use Rattle.buffer_pool.proofs.Common.{Bool, Interval, List, None, Some, [], and_from, and_parts, ap, append-nil, arith, at_pages}
use Rattle.buffer_pool.proofs.Common.{cases_lt, end_of, false, first_fit, gap, has_room, holes_from, in_order, inl, inr, le-leb, le-ltb}
use Rattle.buffer_pool.proofs.Common.{leb-true, length, list_any, lt-leb, lt-ltb, meets, nat_le, nat_lt, not, prefix_len, refl, rooms}
use Rattle.buffer_pool.proofs.Common.{subst, suc, sym, taken, too_small, true, with_interval, zero, ℕ, ◌++◌, ◌+◌, ◌<◌, ◌∙◌, ◌∷◌, ◌≡◌, ◌≤◌}
use Rattle.std.proofs.Common.{◌⊎◌}
use Rattle.std.specs.List.{find, range_with_len}
use Rattle.std.proofs.lemmas.Bool.{and_left, and_right, cases_eq}
use Rattle.sm_names.specs.Pages.{least_start}
use Rattle.buffer_pool.proofs.Orders.{IsFirst, first_in_order, in_order-cons}
use Rattle.buffer_pool.proofs.Gaps.{gap_none, gap_fits, gap_passes}

-- which intervals meet
pub meets-before : (a b : Interval) → end_of a ≤ b.start → meets a b ≡ false
meets-before a b h = and_right (nat_lt a.start (end_of b)) (nat_lt b.start (end_of a)) (le-ltb _ _ h)

-- an interval that begins at or behind the end of another does not meet it
pub meets-behind : (a b : Interval) → end_of b ≤ a.start → meets a b ≡ false
meets-behind a b h = and_left (nat_lt a.start (end_of b)) (nat_lt b.start (end_of a)) (le-ltb _ _ h)

-- two intervals meet if each begins before the other ends
pub meets-over : (a b : Interval) → a.start < end_of b → b.start < end_of a → meets a b ≡ true
meets-over a b h k = and_from (nat_lt a.start (end_of b)) (nat_lt b.start (end_of a)) (lt-ltb _ _ h) (lt-ltb _ _ k)

-- where there is room
pub has_room-past : (size : ℕ) (a i : Interval) (is : List Interval) → meets a i ≡ false → has_room size (i ∷ is) a ≡ has_room size is a
has_room-past size a i is apart = rw apart refl

-- an interval that meets a held one has no room
pub has_room-over : (size : ℕ) (a i : Interval) (is : List Interval) → meets a i ≡ true → has_room size (i ∷ is) a ≡ false
has_room-over size a i is over = rw over (and_right (nat_le (end_of a) size) false refl)

-- an interval that ends beyond the pool has no room
pub has_room-beyond : (size : ℕ) (a : Interval) (is : List Interval) → size < end_of a → has_room size is a ≡ false
has_room-beyond size a is lt = and_left (nat_le (end_of a) size) (not (list_any (meets a) is)) (lt-leb _ _ lt)

-- an interval that ends at or before the first page of an order meets none of its intervals
pub has_room-before : (low size : ℕ) (a : Interval) (is : List Interval) → in_order low size is ≡ true → end_of a ≤ low →
    has_room size is a ≡ true
has_room-before low size a [] h le =
    let r : low ≤ size = leb-true _ _ h in and_from (nat_le (end_of a) size) true (le-leb _ _ (omega arith)) refl
has_room-before low size a (i ∷ is) h le =
    let f = first_in_order low size i is h in
    has_room-past size a i is (meets-before a i (omega (arith, f.from)))
    ∙ has_room-before (end_of i) size a is f.rest (omega (arith, f.from))

-- the least start from a page on at which there is room
pub record IsLeast (low size pages : ℕ) (is : List Interval) (start : ℕ) : Type 0 where
  pub from : low ≤ start
  pub is_free : has_room size is (at_pages pages start) ≡ true
  pub is_least : (t : ℕ) → low ≤ t → t < start → has_room size is (at_pages pages t) ≡ false

-- what the first fit is, where some hole is long enough
pub record Fit (low size pages : ℕ) (is : List Interval) : Type 0 where
  pub least : IsLeast low size pages is (first_fit pages (holes_from low size is))
  pub holes : holes_from low size (with_interval (at_pages pages (first_fit pages (holes_from low size is))) is) ≡ taken pages
      (holes_from low size is)
  pub in_order : in_order low size (with_interval (at_pages pages (first_fit pages (holes_from low size is))) is) ≡ true
  pub some : prefix_len (too_small pages) (holes_from low size is) < length (holes_from low size is)

-- the facts where no hole is
pub record NoFit (low size pages : ℕ) (is : List Interval) : Type 0 where
  pub none : (t : ℕ) → low ≤ t → has_room size is (at_pages pages t) ≡ false
  pub rooms : rooms pages (holes_from low size is) ≡ 0

-- a gap at the end that is long enough
fit_at_end : (low size pages : ℕ) → 1 ≤ pages → low + pages ≤ size → Fit low size pages []
fit_at_end low size pages one fits =
    let g : (first_fit pages (gap low size) ≡ low) × (taken pages (gap low size) ≡ gap (low + pages) size) ×
    (prefix_len (too_small pages) (gap low size) < length (gap low size)) =
    simp append-nil at (gap_fits low size pages [] one fits) in
    let empty = gap_none low low (omega arith) in
    let least : IsLeast low size pages [] low =
    record {
      from = omega arith;
      is_free = and_from (nat_le (low + pages) size) true (le-leb _ _ fits) refl;
      is_least = λ t from less. absurd (omega arith);
    } in
    record {
      least = rw g.0 least;
      holes = rw (g.0, g.1, empty) refl;
      in_order = rw g.0 (and_from (nat_le low low) _ (le-leb _ _ (omega arith)) (and_from (nat_lt 0 pages) _ (lt-ltb _ _ one)
          (le-leb _ _ fits)));
      some = g.2;
    }

-- a gap before an interval that is long enough
fit_before : (low size pages : ℕ) (i : Interval) (is : List Interval) → 1 ≤ pages → low + pages ≤ i.start → IsFirst low size i is →
    Fit low size pages (i ∷ is)
fit_before low size pages i is one fits f =
    let rest : List Interval = holes_from (end_of i) size is in
    let g = gap_fits low i.start pages rest one fits in
    let empty = gap_none low low (omega arith) in
    let behind : nat_lt i.start low ≡ false = le-ltb _ _ (omega arith) in
    let apart = meets-before (at_pages pages low) i fits in
    let room : has_room size is (at_pages pages low) ≡ true =
    has_room-before (end_of i) size (at_pages pages low) is f.rest (omega arith) in
    let least : IsLeast low size pages (i ∷ is) low =
    record {
      from = omega arith;
      is_free = has_room-past size (at_pages pages low) i is apart ∙ room;
      is_least = λ t from less. absurd (omega arith);
    } in
    let order : in_order low size (at_pages pages low ∷ i ∷ is) ≡ true =
    in_order-cons low size (at_pages pages low) (i ∷ is)
    (record {
      from = omega arith;
      has_pages = one;
      rest = in_order-cons (low + pages) size i is (record { from = fits; has_pages = f.has_pages; rest = f.rest });
    }) in
    record {
      least = rw g.0 least;
      holes = rw (g.0, g.1, behind, empty) refl;
      in_order = rw (g.0, behind) order;
      some = g.2;
    }

-- a start from a page on lies over the interval, or behind it
room_behind : (low size pages t : ℕ) (i : Interval) (is : List Interval) → i.start < low + pages → low ≤ t →
    (has_room size (i ∷ is) (at_pages pages t) ≡ false) ⊎
    ((end_of i ≤ t) × (has_room size (i ∷ is) (at_pages pages t) ≡ has_room size is (at_pages pages t)))
room_behind low size pages t i is small from =
    elim (cases_lt t (end_of i)) [
      | inl over ↦ inl (has_room-over size (at_pages pages t) i is (meets-over (at_pages pages t) i over (omega arith)))
      | inr behind ↦ inr (behind, has_room-past size (at_pages pages t) i is (meets-behind (at_pages pages t) i behind))
    ]

-- the first fit lies behind an interval whose gap is not long enough
fit_behind : (low size pages : ℕ) (i : Interval) (is : List Interval) → 1 ≤ pages → i.start < low + pages → IsFirst low size i is →
    Fit (end_of i) size pages is → Fit low size pages (i ∷ is)
fit_behind low size pages i is one small f r =
    let rest : List Interval = holes_from (end_of i) size is in
    let start : ℕ = first_fit pages rest in
    let g = gap_passes low i.start pages rest one f.from small in
    let before : nat_lt i.start start ≡ true = lt-ltb _ _ (omega (arith, r.least.from, f.has_pages)) in
    let least : IsLeast low size pages (i ∷ is) start =
    record {
      from = omega (arith, r.least.from, f.from);
      is_free = has_room-past size (at_pages pages start) i is (meets-behind (at_pages pages start) i r.least.from) ∙ r.least.is_free;
      is_least = λ t from less.
          elim (room_behind low size pages t i is small from) [
            | inl none ↦ none
            | inr b ↦ b.1 ∙ r.least.is_least t b.0 less
          ];
    } in
    let order : in_order low size (i ∷ with_interval (at_pages pages start) is) ≡ true =
    in_order-cons low size i (with_interval (at_pages pages start) is)
    (record { from = f.from; has_pages = f.has_pages; rest = r.in_order }) in
    let holes : holes_from low size (with_interval (at_pages pages start) (i ∷ is)) ≡ taken pages (gap low i.start ++ rest) =
    rw (before, g.taken) (ap (λ hs. gap low i.start ++ hs) r.holes) in
    let ordered : in_order low size (with_interval (at_pages pages start) (i ∷ is)) ≡ true = rw before order in
    record {
      least = subst (IsLeast low size pages (i ∷ is)) (sym g.first_fit) least;
      holes = subst (λ s. holes_from low size (with_interval (at_pages pages s) (i ∷ is)) ≡ taken pages (gap low i.start ++ rest))
          (sym g.first_fit) holes;
      in_order = subst (λ s. in_order low size (with_interval (at_pages pages s) (i ∷ is)) ≡ true) (sym g.first_fit) ordered;
      some = g.some r.some;
    }

-- if a gap is too small and no hole behind its interval fits, no start from the gap on has room
no_fit_behind : (low size pages : ℕ) (i : Interval) (is : List Interval) → 1 ≤ pages → i.start < low + pages → IsFirst low size i is →
    NoFit (end_of i) size pages is → NoFit low size pages (i ∷ is)
no_fit_behind low size pages i is one small f r =
    let g = gap_passes low i.start pages (holes_from (end_of i) size is) one f.from small in
    record {
      none = λ t from.
          elim (room_behind low size pages t i is small from) [
            | inl none ↦ none
            | inr b ↦ b.1 ∙ r.none t b.0
          ];
      rooms = g.rooms ∙ r.rooms;
    }

-- there is a first fit, or none
pub fit_or_none : (low size pages : ℕ) (is : List Interval) → 1 ≤ pages → in_order low size is ≡ true → Fit low size pages is ⊎
    NoFit low size pages is
fit_or_none low size pages [] one h =
    let le : low ≤ size = leb-true _ _ h in
    elim (cases_lt size (low + pages)) [
      | inr fits ↦ inl (fit_at_end low size pages one fits)
      | inl small ↦
          let g = gap_passes low size pages [] one le small in
          let r : rooms pages (gap low size) ≡ 0 = simp append-nil at g.rooms in
          inr (record { none = λ t from. has_room-beyond size (at_pages pages t) [] (omega arith); rooms = r })
    ]
fit_or_none low size pages (i ∷ is) one h =
    let f = first_in_order low size i is h in
    elim (cases_lt i.start (low + pages)) [
      | inr fits ↦ inl (fit_before low size pages i is one fits f)
      | inl small ↦
          elim (fit_or_none (end_of i) size pages is one f.rest) [
            | inl r ↦ inl (fit_behind low size pages i is one small f r)
            | inr r ↦ inr (no_fit_behind low size pages i is one small f r)
          ]
    ]

-- what a search over a range finds
find_least : (p : ℕ → Bool) (a n s : ℕ) → a ≤ s → s < a + n → p s ≡ true → ((t : ℕ) → a ≤ t → t < s → p t ≡ false) →
    find p (range_with_len a n) ≡ Some s
find_least p a zero s from to here before = absurd (omega arith)
find_least p a (suc n) s from to here before =
    elim (cases_eq a s) [
      | inl same ↦ let y : p a ≡ true = rw same here in rw y (ap Some same)
      | inr other ↦
          let no : p a ≡ false = before a (omega arith) (omega arith) in
          rw no (find_least p (a + 1) n s (omega arith) (omega arith) here (λ t from less. before t (omega arith) less))
    ]

-- a search over a range finds nothing if the test fails at each number of the range
find_none : (p : ℕ → Bool) (a n : ℕ) → ((t : ℕ) → a ≤ t → p t ≡ false) → find p (range_with_len a n) ≡ None
find_none p a zero none = refl
find_none p a (suc n) none =
    let no : p a ≡ false = none a (omega arith) in rw no (find_none p (a + 1) n (λ t from. none t (omega arith)))

-- the least start is the first fit
pub least_start-fit : (size pages : ℕ) (is : List Interval) → 1 ≤ pages → Fit 0 size pages is →
    least_start size pages is ≡ Some (first_fit pages (holes_from 0 size is))
least_start-fit size pages is one f =
    let start : ℕ = first_fit pages (holes_from 0 size is) in
    let inside : start + pages ≤ size = leb-true _ _ (and_parts (nat_le (start + pages) size) _ f.least.is_free).0 in
    find_least (λ t. has_room size is (at_pages pages t)) 0 size start (omega arith) (omega arith) f.least.is_free f.least.is_least

-- if no hole is long enough, there is no least start
pub least_start-none : (size pages : ℕ) (is : List Interval) → NoFit 0 size pages is → least_start size pages is ≡ None
least_start-none size pages is f = find_none (λ t. has_room size is (at_pages pages t)) 0 size f.none
