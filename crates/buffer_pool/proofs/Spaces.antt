-- Holes that are spaced, and pages that come back to them.
use Rattle.buffer_pool.proofs.Common.{Bool, Interval, IsNonDecreasingBy, List, [], add-one, and_from, and_parts, ap, arith, cases_Bool}
use Rattle.buffer_pool.proofs.Common.{cases_lt, drop, drop_all, drop_at, drop_more, end_of, eqb-true, false, first_begins, first_ends}
use Rattle.buffer_pool.proofs.Common.{get_or, inl, inr, insert, le-leb, leb-true, length, length-insert, length-remove, length-take-le}
use Rattle.buffer_pool.proofs.Common.{lt-ltb, ltb-true, nat_le, nat_lt, prefix_len, prefix_len-le-length, refl, remove, set, set_split}
use Rattle.buffer_pool.proofs.Common.{spaced, subst, suc, sym, take, take-append-le, take-take, true, with_merged, with_released, zero, ℕ}
use Rattle.buffer_pool.proofs.Common.{◌++◌, ◌+◌, ◌<◌, ◌==◌, ◌∙◌, ◌∷◌, ◌≡◌, ◌≤◌}
use Rattle.std.proofs.Common.{one-add}
use Rattle.buffer_pool.specs.Merging.{merged}

-- the parts of spaced holes with a first
pub record IsFirst (low : ℕ) (h : Interval) (hs : List Interval) : Type 0 where
  pub from : low ≤ h.start
  pub has_pages : 0 < h.pages
  pub rest : spaced (end_of h + 1) hs ≡ true

-- the test of spaced holes gives what it asks of the first hole and of the rest
pub first_spaced : (low : ℕ) (h : Interval) (hs : List Interval) → spaced low (h ∷ hs) ≡ true → IsFirst low h hs
first_spaced low h hs s =
    let p = and_parts (nat_le low h.start) _ s in
    let q = and_parts (nat_lt 0 h.pages) _ p.1 in
    record { from = leb-true _ _ p.0; has_pages = ltb-true _ _ q.0; rest = q.1 }

-- the converse: a hole before spaced holes that begin behind its end makes a spaced list
pub spaced-cons : (low : ℕ) (h : Interval) (hs : List Interval) → IsFirst low h hs → spaced low (h ∷ hs) ≡ true
spaced-cons low h hs f = and_from (nat_le low h.start) _ (le-leb _ _ f.from) (and_from (nat_lt 0 h.pages) _ (lt-ltb _ _ f.has_pages) f.rest)

-- spaced holes are spaced from an earlier page too
pub spaced-earlier : (low low' : ℕ) (hs : List Interval) → low' ≤ low → spaced low hs ≡ true → spaced low' hs ≡ true
spaced-earlier low low' [] le s = refl
spaced-earlier low low' (h ∷ hs) le s =
    let f = first_spaced low h hs s in
    spaced-cons low' h hs (record { from = omega (arith, f.from); has_pages = f.has_pages; rest = f.rest })

-- each hole begins from the low page on
pub spaced-at : (low : ℕ) (hs : List Interval) → spaced low hs ≡ true → (k : ℕ) (d : Interval) → k < length hs → low ≤ (get_or hs k d).start
spaced-at low [] s k d lt = absurd (omega arith)
spaced-at low (h ∷ hs) s zero d lt = (first_spaced low h hs s).from
spaced-at low (h ∷ hs) s (suc k) d lt =
    let f = first_spaced low h hs s in
    let within : k < length hs = omega arith in
    let r = spaced-at (end_of h + 1) hs f.rest k d within in omega (arith, f.from, r)

-- the ends of spaced holes rise
pub spaced-rises : (low : ℕ) (hs : List Interval) → spaced low hs ≡ true → IsNonDecreasingBy end_of hs
spaced-rises low [] s j k d le lt = absurd (omega arith)
spaced-rises low (h ∷ hs) s zero zero d le lt = omega arith
spaced-rises low (h ∷ hs) s (suc j) zero d le lt = absurd (omega arith)
spaced-rises low (h ∷ hs) s zero (suc k) d le lt =
    let f = first_spaced low h hs s in
    let within : k < length hs = omega arith in
    let r = spaced-at (end_of h + 1) hs f.rest k d within in omega (arith, r)
spaced-rises low (h ∷ hs) s (suc j) (suc k) d le lt =
    let f = first_spaced low h hs s in
    let within : k < length hs = omega arith in
    let before : j ≤ k = omega arith in
    spaced-rises (end_of h + 1) hs f.rest j k d before within

-- what comes back is merged behind the holes that end before it
pub released_at : (i : Interval) (hs : List Interval) →
    with_released i hs ≡ take (prefix_len (λ (h : Interval). nat_lt (end_of h) i.start) hs)
    hs ++ merged i (drop (prefix_len (λ (h : Interval). nat_lt (end_of h) i.start) hs) hs)
released_at i [] = refl
released_at i (h ∷ hs) =
    elim (cases_Bool (nat_lt (end_of h) i.start)) [
      | inl y ↦ rw (y, one-add) (ap (λ r. h ∷ r) (released_at i hs))
      | inr n ↦ rw n refl
    ]

-- where a first hole is looked for beyond the last, there is none
pub first_within : (test : List Interval → Bool) (at : ℕ) (hs : List Interval) → test [] ≡ false → test (drop at hs) ≡ true → at < length hs
first_within test at hs none some =
    elim (cases_lt at (length hs)) [
      | inl lt ↦ lt
      | inr ge ↦ let empty : drop at hs ≡ [] = drop_all at hs ge in let t : test [] ≡ true = rw empty at some in cc
    ]

-- the three ways of merging
pub merged_behind : (i hole : Interval) (at : ℕ) (hs : List Interval) → at < length hs → hole ≡ get_or hs at hole →
    first_ends i.start (drop at hs) ≡ true → (end_of hole ≡ i.start) ×
    (merged i (drop at hs) ≡ with_merged (record { start = hole.start; pages = hole.pages + i.pages }) (drop (at + 1) hs))
merged_behind i hole at hs lt is ends =
    let parts : drop at hs ≡ hole ∷ drop (at + 1) hs = rw (sym is) at (drop_more hs at hole lt) in
    let e : (end_of hole == i.start) ≡ true = rw parts at ends in
    (eqb-true _ _ e, rw parts (rw e refl))

-- an interval that ends where the hole begins makes the hole longer at its front
pub merged_before : (i hole : Interval) (at : ℕ) (hs : List Interval) → at < length hs → hole ≡ get_or hs at hole →
    first_ends i.start (drop at hs) ≡ false → first_begins (end_of i) (drop at hs) ≡ true → (hole.start ≡ end_of i) ×
    (merged i (drop at hs) ≡ record { start = i.start; pages = i.pages + hole.pages } ∷ drop (at + 1) hs)
merged_before i hole at hs lt is ends begins =
    let parts : drop at hs ≡ hole ∷ drop (at + 1) hs = rw (sym is) at (drop_more hs at hole lt) in
    let n : (end_of hole == i.start) ≡ false = rw parts at ends in
    let e : (hole.start == end_of i) ≡ true = rw parts at begins in
    (eqb-true _ _ e, rw parts (rw (n, e) refl))

-- an interval that touches the first hole on neither side becomes a hole of its own
pub merged_apart : (i : Interval) (ys : List Interval) → first_ends i.start ys ≡ false → first_begins (end_of i) ys ≡ false →
    merged i ys ≡ i ∷ ys
merged_apart i [] ends begins = refl
merged_apart i (h ∷ hs) ends begins = rw (ends, begins) refl

-- an interval that does not touch the first stays apart
pub joined_apart : (i : Interval) (ys : List Interval) → first_begins (end_of i) ys ≡ false → with_merged i ys ≡ i ∷ ys
joined_apart i [] begins = refl
joined_apart i (h ∷ hs) begins = rw begins refl

-- the two ways of joining a hole with the next
pub join_apart : (hole : Interval) (at : ℕ) (hs : List Interval) → at < length hs → first_begins (end_of hole) (drop (at + 1) hs) ≡ false →
    set hs at hole ≡ take at hs ++ with_merged hole (drop (at + 1) hs)
join_apart hole at hs lt begins = rw (joined_apart hole (drop (at + 1) hs) begins, add-one) (set_split hs at hole lt)

-- a next hole that begins where the hole ends is removed, and the hole gains its pages
pub join_touching : (hole next : Interval) (at : ℕ) (hs : List Interval) → next ≡ get_or hs (at + 1) next →
    first_begins (end_of hole) (drop (at + 1) hs) ≡ true →
    set (remove hs (at + 1)) at (record { start = hole.start; pages = hole.pages + next.pages }) ≡ take at hs ++ with_merged hole
    (drop (at + 1) hs)
join_touching hole next at hs is begins =
    let lt : at + 1 < length hs = first_within (first_begins (end_of hole)) (at + 1) hs refl begins in
    let parts : drop (at + 1) hs ≡ next ∷ drop (at + 1 + 1) hs = rw (sym is) at (drop_more hs (at + 1) next lt) in
    let e : (next.start == end_of hole) ≡ true = rw parts at begins in
    let front : length (take (at + 1) hs) ≡ suc at = length-take-le (at + 1) hs (omega arith) ∙ add-one at in
    let whole : at < length (remove hs (at + 1)) = omega (arith, length-remove hs (at + 1) lt) in
    let fronts : take at (remove hs (at + 1)) ≡ take at hs =
    take-append-le at (take (at + 1) hs) _ (omega arith) ∙ take-take at (at + 1) hs (omega arith) in
    let backs : drop (suc at) (remove hs (at + 1)) ≡ drop (at + 1 + 1) hs =
    drop_at (take (at + 1) hs) _ (suc at) front ∙ ap (λ n. drop n hs) (sym (add-one (at + 1))) in
    set_split (remove hs (at + 1)) at _ whole
    ∙ (λ k. fronts k ++ record { start = hole.start; pages = hole.pages + next.pages } ∷ backs k)
    ∙ sym (rw parts (rw e refl))

-- what comes back, behind the hole at the place, before it, or apart from all
module _ (i : Interval) (hs : List Interval) (at : ℕ) (found : at ≡ prefix_len (λ (h : Interval). nat_lt (end_of h) i.start) hs) where
  -- the interval is merged with the holes from the place on; those before the place stay
  placed_at : with_released i hs ≡ take at hs ++ merged i (drop at hs)
  placed_at = subst (λ n. with_released i hs ≡ take n hs ++ merged i (drop n hs)) (sym found) (released_at i hs)

  -- where the hole at the place ends at the interval's start, it gains the interval's pages
  pub released_behind : (hole : Interval) → hole ≡ get_or hs at hole → first_ends i.start (drop at hs) ≡ true →
      take at hs ++ with_merged (record { start = hole.start; pages = hole.pages + i.pages }) (drop (at + 1) hs) ≡ with_released i hs
  released_behind hole is ends =
      let m = merged_behind i hole at hs (first_within (first_ends i.start) at hs refl ends) is ends in
      sym (placed_at ∙ ap (λ r. take at hs ++ r) m.1)

  -- where the hole at the place touches only the end of the interval, both become one hole
  pub released_before : (hole : Interval) → hole ≡ get_or hs at hole → first_ends i.start (drop at hs) ≡ false →
      first_begins (end_of i) (drop at hs) ≡ true →
      set hs at (record { start = i.start; pages = i.pages + hole.pages }) ≡ with_released i hs
  released_before hole is ends begins =
      let lt : at < length hs = first_within (first_begins (end_of i)) at hs refl begins in
      let m = merged_before i hole at hs lt is ends begins in
      set_split hs at _ lt ∙ sym (placed_at ∙ ap (λ r. take at hs ++ r) (rw (sym (add-one at)) m.1))

  -- an interval that touches no hole becomes a hole of its own at the place
  pub released_apart : first_ends i.start (drop at hs) ≡ false → first_begins (end_of i) (drop at hs) ≡ false →
      insert hs at i ≡ with_released i hs
  released_apart ends begins = sym (placed_at ∙ ap (λ r. take at hs ++ r) (merged_apart i (drop at hs) ends begins))

  -- there is room for it where it lies apart
  pub room_apart : (capacity : ℕ) → first_ends i.start (drop at hs) ≡ false → first_begins (end_of i) (drop at hs) ≡ false →
      length (with_released i hs) ≤ capacity → (at ≤ length hs) × (length hs < capacity)
  room_apart capacity ends begins room =
      let le : at ≤ length hs = omega (arith, prefix_len-le-length (λ (h : Interval). nat_lt (end_of h) i.start) hs) in
      (le, omega (arith, length-insert hs at i le, ap length (released_apart ends begins)))
