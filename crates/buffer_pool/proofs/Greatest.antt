-- The holes are the greatest free intervals.
use Rattle.buffer_pool.proofs.Common.{Contains, Interval, List, [], and_from, and_parts, ap, append-nil, arith, both_ways, cases_Bool}
use Rattle.buffer_pool.proofs.Common.{cases_lt, end_of, false, gap, get_or, get_or_default, has_room, holes_from, holes_of, in_order, inl}
use Rattle.buffer_pool.proofs.Common.{inr, le-leb, leb-true, length, meets, nat_le, refl, spaced, subst, suc, sym, true, zero, ℕ, ◌++◌}
use Rattle.buffer_pool.proofs.Common.{◌+◌, ◌-◌, ◌<◌, ◌∙◌, ◌∷◌, ◌≡◌, ◌≤◌}
use Rattle.std.proofs.lemmas.Bool.{cases_order}
use Rattle.buffer_pool.specs.Holes.{IsHole}
use Rattle.buffer_pool.proofs.Gaps.{gap_some, gap_none, spaced-holes}
use Rattle.buffer_pool.proofs.Least.{meets-before, meets-behind, meets-over, has_room-past, has_room-over, has_room-before}
use Rattle.buffer_pool.proofs.Orders.{first_in_order}
use Rattle.buffer_pool.proofs.Spaces.{first_spaced, spaced-at}

-- a hole of the list is behind those before it
spaced-apart : (low : ℕ) (hs : List Interval) → spaced low hs ≡ true → (j k : ℕ) (d e : Interval) → j < k → k < length hs →
    end_of (get_or hs j d) < (get_or hs k e).start
spaced-apart low [] s j k d e less lt = absurd (omega arith)
spaced-apart low (h ∷ hs) s j zero d e less lt = absurd (omega arith)
spaced-apart low (h ∷ hs) s zero (suc k) d e less lt =
    let f = first_spaced low h hs s in
    let within : k < length hs = omega arith in
    let at = spaced-at (end_of h + 1) hs f.rest k e within in omega (arith, at)
spaced-apart low (h ∷ hs) s (suc j) (suc k) d e less lt =
    let f = first_spaced low h hs s in
    let within : k < length hs = omega arith in
    let before : j < k = omega arith in
    spaced-apart (end_of h + 1) hs f.rest j k d e before within

-- each hole of a spaced list has a page, since the test asks it of each
pub spaced-pages : (low : ℕ) (hs : List Interval) → spaced low hs ≡ true → (k : ℕ) (d : Interval) → k < length hs → 0 < (get_or hs k d).pages
spaced-pages low [] s k d lt = absurd (omega arith)
spaced-pages low (h ∷ hs) s zero d lt = (first_spaced low h hs s).has_pages
spaced-pages low (h ∷ hs) s (suc k) d lt =
    let within : k < length hs = omega arith in spaced-pages (end_of h + 1) hs (first_spaced low h hs s).rest k d within

-- where a list has an interval
abbrev pub HasAt : (Interval → Type 0) → List Interval → Interval → Type 0
HasAt P hs d = (k : ℕ) × (k < length hs) × P (get_or hs k d)

-- an interval behind a gap lies in the rest
has_behind : (P : Interval → Type 0) (low to : ℕ) (rest : List Interval) (d : Interval) → HasAt P rest d → HasAt P (gap low to ++ rest) d
has_behind P low to rest d at =
    elim (cases_lt low to) [
      | inl some ↦ rw (gap_some low to some) (suc at.0, omega (arith, at.1), at.2)
      | inr none ↦ rw (gap_none low to none) at
    ]

-- each part of room
pub room_parts : (size : ℕ) (a i : Interval) (is : List Interval) → has_room size (i ∷ is) a ≡ true → (meets a i ≡ false) ×
    (has_room size is a ≡ true)
room_parts size a i is h =
    elim (cases_Bool (meets a i)) [
      | inl over ↦ absurd (both_ways _ (has_room-over size a i is over) h)
      | inr apart ↦ (apart, sym (has_room-past size a i is apart) ∙ h)
    ]

-- the hole has the interval within
abbrev pub Covers : Interval → Interval → Type 0
Covers a hole = (hole.start ≤ a.start) × (end_of a ≤ end_of hole)

-- a free interval lies in a hole
covered : (low size : ℕ) (a : Interval) (is : List Interval) → in_order low size is ≡ true → 0 < a.pages → low ≤ a.start →
    has_room size is a ≡ true → HasAt (Covers a) (holes_from low size is) a
covered low size a [] h some from room =
    let p = and_parts (nat_le (end_of a) size) true room in
    let inside : end_of a ≤ size = leb-true _ _ p.0 in
    rw (gap_some low size (omega arith)) (0, omega arith, (from, omega arith))
covered low size a (i ∷ is) h some from room =
    let f = first_in_order low size i is h in
    let p = room_parts size a i is room in
    elim (cases_lt i.start (end_of a)) [
      | inr before ↦ rw (gap_some low i.start (omega arith)) (0, omega arith, (from, omega arith))
      | inl reaches ↦
          elim (cases_lt a.start (end_of i)) [
            | inl over ↦ absurd (both_ways _ p.0 (meets-over a i over reaches))
            | inr behind ↦ has_behind (Covers a) low i.start (holes_from (end_of i) size is) a (covered (end_of i) size a is f.rest some
                behind p.1)
          ]
    ]

-- each hole is free
pub room_in_gap : (low to : ℕ) (P : Interval → Type 0) (rest : List Interval) → (low < to → P (record { start = low; pages = to - low })) →
    ((k : ℕ) (d : Interval) → k < length rest → P (get_or rest k d)) → (k : ℕ) (d : Interval) → k < length (gap low to ++ rest) →
    P (get_or (gap low to ++ rest) k d)
room_in_gap low to P rest here behind k d lt =
    elim (cases_lt low to) [
      | inl some ↦ rw (gap_some low to some) (both k (here some) (rw (gap_some low to some) at lt))
      | inr none ↦ rw (gap_none low to none) (behind k d (rw (gap_none low to none) at lt))
    ]
  where
    -- by cases on the place: the first one, or one of the others
    both : (k : ℕ) → P (record { start = low; pages = to - low }) →
        k < length {A = Interval} (record { start = low; pages = to - low } ∷ rest) →
        P (get_or {A = Interval} (record { start = low; pages = to - low } ∷ rest) k d)
    both zero first lt = first
    both (suc k) first lt = behind k d (omega arith)

-- each hole is free: earlier intervals end before it, and later ones begin behind it
holes-free : (low size : ℕ) (is : List Interval) → in_order low size is ≡ true → (k : ℕ) (d : Interval) →
    k < length (holes_from low size is) → has_room size is (get_or (holes_from low size is) k d) ≡ true
holes-free low size [] h k d lt =
    simp append-nil at
    (room_in_gap low size (λ a. has_room size [] a ≡ true) [] (λ some.
    and_from (nat_le (low + (size - low)) size) true (le-leb _ _ (omega arith)) refl) (λ k d lt. absurd (omega arith)) k d
    (subst (λ hs. k < length hs) (sym (append-nil (gap low size))) lt))
holes-free low size (i ∷ is) h k d lt =
    let f = first_in_order low size i is h in
    let rest : List Interval = holes_from (end_of i) size is in
    room_in_gap low i.start (λ a. has_room size (i ∷ is) a ≡ true) rest
    (λ some.
    let hole : Interval = record { start = low; pages = i.start - low } in
    has_room-past size hole i is (meets-before hole i (omega arith)) ∙ has_room-before (end_of i) size hole is f.rest (omega arith))
    (λ k d lt.
    let at = spaced-at (end_of i) rest (spaced-holes (end_of i) size is f.rest) k d lt in
    has_room-past size (get_or rest k d) i is (meets-behind (get_or rest k d) i at) ∙ holes-free (end_of i) size is f.rest k d lt)
    k d lt

-- intervals of one start and one end are one
same_interval : (a b : Interval) → a.start ≡ b.start → end_of a ≡ end_of b → a ≡ b
same_interval a b s e = let p : a.pages ≡ b.pages = omega arith in λ k. record { start = s k; pages = p k }

-- a hole of the list is a greatest free interval
pub hole_from : (size : ℕ) (held : List Interval) (i : Interval) → in_order 0 size held ≡ true → Contains (holes_of size held) i →
    IsHole size held i
hole_from size held i order there =
    let hs : List Interval = holes_of size held in
    let k : ℕ = there.0 in
    let lt : k < length hs = there.1 in
    let is : get_or hs k i ≡ i = there.2 in
    let s = spaced-holes 0 size held order in
    let pages : 0 < i.pages = subst (λ (h : Interval). 0 < h.pages) is (spaced-pages 0 hs s k i lt) in
    record {
      has_pages = pages;
      is_free = subst (λ h. has_room size held h ≡ true) is (holes-free 0 size held order k i lt);
      is_greatest = λ a room from to.
          let c = covered 0 size a held order (omega arith) (omega arith) room in
          let other : Interval = get_or hs c.0 a in
          let outer_from : other.start ≤ a.start = c.2.0 in
          let outer_to : end_of a ≤ end_of other = c.2.1 in
          elim (cases_order k c.0) [
            | inl same ↦
                let one : other ≡ i = subst (λ n. get_or hs n a ≡ i) same (get_or_default hs k a i lt ∙ is) in
                let s' : other.start ≡ i.start = ap (λ (h : Interval). h.start) one in
                let e' : end_of other ≡ end_of i = ap end_of one in
                same_interval a i (omega arith) (omega arith)
            | inr apart ↦
                elim apart [
                  | inl before ↦
                      let gap : end_of i < other.start =
                      subst (λ h. end_of h < other.start) is (spaced-apart 0 hs s k c.0 i a before c.1) in
                      absurd (omega arith)
                  | inr behind ↦
                      let gap : end_of other < i.start =
                      subst (λ (h : Interval). end_of other < h.start) is (spaced-apart 0 hs s c.0 k a i behind lt) in
                      absurd (omega arith)
                ]
          ];
    }

-- and each greatest free interval is in the list
pub hole_in : (size : ℕ) (held : List Interval) (i : Interval) → in_order 0 size held ≡ true → IsHole size held i →
    Contains (holes_of size held) i
hole_in size held i order h =
    let c = covered 0 size i held order h.has_pages (omega arith) h.is_free in
    let hole : Interval = get_or (holes_of size held) c.0 i in
    (c.0, c.1, h.is_greatest hole (holes-free 0 size held order c.0 i c.1) c.2.0 c.2.1)
