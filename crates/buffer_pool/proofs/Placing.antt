-- Buffers placed one after another by first fit are placed as the definition says.
use Rattle.buffer_pool.proofs.Common.{Bool, Interval, List, None, Some, [], ap, arith, at_pages, cases_Bool, div-eq-sub-div, div-eq_of_lt}
use Rattle.buffer_pool.proofs.Common.{end_of, eqb-true, false, first_fit, holes_after, holes_of, in_order, inl, inr, le-leb, length}
use Rattle.buffer_pool.proofs.Common.{list_any, looks_for, looks_in, lt-leb, ltb-false, ltb-true, mul-le-mul_right, mul_comm, nat_le}
use Rattle.buffer_pool.proofs.Common.{nat_lt, places, prefix_len, refl, rooms, spaced, starts_in, subst, suc, suc-mul, sum_by-cons, sym}
use Rattle.buffer_pool.proofs.Common.{taken, too_small, total_pages, true, with_buffers, with_interval, zero, ℕ, ◌*◌, ◌+◌, ◌-◌, ◌/◌, ◌<◌}
use Rattle.buffer_pool.proofs.Common.{◌==◌, ◌∙◌, ◌∷◌, ◌≡◌, ◌≤◌}
use Rattle.std.proofs.Common.{cond, ◌||◌}
use Rattle.std.specs.Option.{option_map}
use Rattle.sm_names.proofs.PlaceLaws.{places_same}
use Rattle.buffer_pool.specs.Looks.{looks_at}
use Rattle.buffer_pool.proofs.Orders.{length-with_interval, pages_in-with_interval}
use Rattle.buffer_pool.proofs.Spaces.{first_spaced}
use Rattle.buffer_pool.proofs.Gaps.{spaced-holes}
use Rattle.buffer_pool.proofs.Least.{Fit, fit_or_none, least_start-fit, least_start-none}

-- where a buffer is taken from, there was room for one more
pub rooms-taken : (pages : ℕ) (hs : List Interval) → 1 ≤ pages → prefix_len (too_small pages) hs < length hs →
    rooms pages hs ≡ 1 + rooms pages (taken pages hs)
rooms-taken pages [] one lt = absurd (omega arith)
rooms-taken pages (h ∷ hs) one lt =
    let quotient : Interval → ℕ = λ h. h.pages / pages in
    let whole : rooms pages (h ∷ hs) ≡ h.pages / pages + rooms pages hs = sum_by-cons quotient h hs in
    elim (cases_Bool (too_small pages h)) [
      | inl y ↦
          let within : 1 + prefix_len (too_small pages) hs < length (h ∷ hs) = rw y at lt in
          let r : rooms pages hs ≡ 1 + rooms pages (taken pages hs) = rooms-taken pages hs one (omega arith) in
          let left : rooms pages (h ∷ taken pages hs) ≡ h.pages / pages + rooms pages (taken pages hs) =
          sum_by-cons quotient h (taken pages hs) in
          rw y (omega arith)
      | inr n ↦
          let fits : pages ≤ h.pages = ltb-false _ _ n in
          let less : h.pages / pages ≡ (h.pages - pages) / pages + 1 = div-eq-sub-div one fits in
          elim (cases_Bool (h.pages == pages)) [
            | inl e ↦
                let few : h.pages - pages < pages = let same : h.pages ≡ pages = eqb-true _ _ e in omega arith in
                let none : (h.pages - pages) / pages ≡ 0 = div-eq_of_lt few in
                rw (n, e) (omega arith)
            | inr d ↦
                let rest : Interval = record { start = h.start + pages; pages = h.pages - pages } in
                let left : rooms pages (rest ∷ hs) ≡ (h.pages - pages) / pages + rooms pages hs = sum_by-cons quotient rest hs in
                rw (n, d) (omega arith)
          ]
    ]

-- taking makes no hole
pub length-taken : (pages : ℕ) (hs : List Interval) → length (taken pages hs) ≤ length hs
length-taken pages [] = omega arith
length-taken pages (h ∷ hs) =
    elim (cases_Bool (too_small pages h)) [
      | inl y ↦ let r : length (taken pages hs) ≤ length hs = length-taken pages hs in rw y (omega arith)
      | inr n ↦
          elim (cases_Bool (h.pages == pages)) [
            | inl e ↦ rw (n, e) (omega arith)
            | inr d ↦ rw (n, d) (omega arith)
          ]
    ]

-- behind a page begins no hole of those from a later page on
looks_at-before : (start low : ℕ) (hs : List Interval) → start < low → spaced low hs ≡ true → looks_at start hs ≡ 0
looks_at-before start low [] lt s = refl
looks_at-before start low (h ∷ hs) lt s =
    let f = first_spaced low h hs s in
    let no : nat_le h.start start ≡ false = lt-leb _ _ (omega (arith, f.from)) in
    let r : looks_at start hs ≡ 0 = looks_at-before start (end_of h + 1) hs (omega (arith, f.from)) f.rest in
    let zeroes : cond {A = ℕ} (nat_le h.start start) 1 0 ≡ 0 = rw no refl in
    let sum : looks_at start (h ∷ hs) ≡ cond {A = ℕ} (nat_le h.start start) 1 0 + looks_at start hs =
    sum_by-cons (λ (x : Interval). cond (nat_le x.start start) 1 0) h hs in
    omega arith

-- the holes that begin at or before the first fit are those that a search looks at
pub looks_at-first_fit : (pages low : ℕ) (hs : List Interval) → spaced low hs ≡ true → prefix_len (too_small pages) hs < length hs →
    (low ≤ first_fit pages hs) × (looks_at (first_fit pages hs) hs ≡ prefix_len (too_small pages) hs + 1)
looks_at-first_fit pages low [] s lt = absurd (omega arith)
looks_at-first_fit pages low (h ∷ hs) s lt =
    let f = first_spaced low h hs s in
    elim (cases_Bool (too_small pages h)) [
      | inl y ↦
          let within : 1 + prefix_len (too_small pages) hs < length (h ∷ hs) = rw y at lt in
          let r = looks_at-first_fit pages (end_of h + 1) hs f.rest (omega arith) in
          let start : ℕ = first_fit pages hs in
          let yes : nat_le h.start start ≡ true = le-leb _ _ (omega (arith, r.0)) in
          let one : cond {A = ℕ} (nat_le h.start start) 1 0 ≡ 1 = rw yes refl in
          let sum : looks_at start (h ∷ hs) ≡ cond {A = ℕ} (nat_le h.start start) 1 0 + looks_at start hs =
          sum_by-cons (λ (x : Interval). cond (nat_le x.start start) 1 0) h hs in
          let same : first_fit pages (h ∷ hs) ≡ start = rw y refl in
          let further : prefix_len (too_small pages) (h ∷ hs) ≡ 1 + prefix_len (too_small pages) hs = rw y refl in
          subst (λ s. (low ≤ s) × (looks_at s (h ∷ hs) ≡ prefix_len (too_small pages) (h ∷ hs) + 1)) (sym same)
          (omega (arith, r.0, f.from), omega (arith, r.1))
      | inr n ↦
          let yes : nat_le h.start h.start ≡ true = le-leb _ _ (omega arith) in
          let one : cond {A = ℕ} (nat_le h.start h.start) 1 0 ≡ 1 = rw yes refl in
          let sum : looks_at h.start (h ∷ hs) ≡ cond {A = ℕ} (nat_le h.start h.start) 1 0 + looks_at h.start hs =
          sum_by-cons (λ (x : Interval). cond (nat_le x.start h.start) 1 0) h hs in
          let none : looks_at h.start hs ≡ 0 = looks_at-before h.start (end_of h + 1) hs (omega arith) f.rest in
          let same : first_fit pages (h ∷ hs) ≡ h.start = rw n refl in
          let nearest : prefix_len (too_small pages) (h ∷ hs) ≡ 0 = rw n refl in
          subst (λ s. (low ≤ s) × (looks_at s (h ∷ hs) ≡ prefix_len (too_small pages) (h ∷ hs) + 1)) (sym same) (f.from, omega arith)
    ]

-- an interval in its place passes what it would pass at the front
pub list_any-with_interval : (p : Interval → Bool) (new : Interval) (is : List Interval) →
    list_any p (with_interval new is) ≡ (p new || list_any p is)
list_any-with_interval p new [] = refl
list_any-with_interval p new (i ∷ is) =
    elim (cases_Bool (nat_lt i.start new.start)) [
      | inl y ↦ rw (y, list_any-with_interval p new is) (turned (p i) (p new) (list_any p is))
      | inr n ↦ rw n refl
    ]
  where
    -- by cases on the first two tests
    turned : (a b c : Bool) → (a || (b || c)) ≡ (b || (a || c))
    turned true true c = refl
    turned true false c = refl
    turned false b c = refl

-- where some buffer has room, some hole is long enough
pub rooms-some : (pages : ℕ) (hs : List Interval) → 1 ≤ pages → 0 < rooms pages hs → prefix_len (too_small pages) hs < length hs
rooms-some pages [] one some = let none : rooms pages [] ≡ 0 = refl in absurd (omega arith)
rooms-some pages (h ∷ hs) one some =
    elim (cases_Bool (too_small pages h)) [
      | inl y ↦
          let few : h.pages < pages = ltb-true _ _ y in
          let none : h.pages / pages ≡ 0 = div-eq_of_lt few in
          let whole : rooms pages (h ∷ hs) ≡ h.pages / pages + rooms pages hs = sum_by-cons (λ (h : Interval). h.pages / pages) h hs in
          let r : prefix_len (too_small pages) hs < length hs = rooms-some pages hs one (omega arith) in
          rw y (omega arith)
      | inr n ↦ rw n (omega arith)
    ]

-- each buffer looks at one hole at least, and at all of them at most
pub looks_in-bounds : (pages count : ℕ) (hs : List Interval) → 1 ≤ pages → count ≤ rooms pages hs → (count ≤ looks_in pages count hs) ×
    (looks_in pages count hs ≤ count * length hs)
looks_in-bounds pages zero hs one le = (omega arith, omega arith)
looks_in-bounds pages (suc count) hs one le =
    let some : prefix_len (too_small pages) hs < length hs = rooms-some pages hs one (omega arith) in
    let r = looks_in-bounds pages count (taken pages hs) one (omega (arith, rooms-taken pages hs one some)) in
    let shorter : length (taken pages hs) * count ≤ length hs * count = mul-le-mul_right count (length-taken pages hs) in
    let turned : count * length (taken pages hs) ≡ length (taken pages hs) * count = mul_comm count (length (taken pages hs)) in
    let turned' : count * length hs ≡ length hs * count = mul_comm count (length hs) in
    let more : suc count * length hs ≡ count * length hs + length hs = suc-mul count (length hs) in
    (omega (arith, r.0), omega (arith, r.1))

-- what placing buffers makes of what is held, with these holes
pub record Run (size pages count : ℕ) (held hs : List Interval) : Type 0 where
  pub places_are : places size pages count held ≡ Some (starts_in pages count hs)
  pub holes_are : holes_of size (with_buffers pages (starts_in pages count hs) held) ≡ holes_after pages count hs
  pub looks_are : looks_for size pages (starts_in pages count hs) held ≡ looks_in pages count hs
  pub in_order : in_order 0 size (with_buffers pages (starts_in pages count hs) held) ≡ true
  pub pages_are : total_pages (with_buffers pages (starts_in pages count hs) held) ≡ count * pages + total_pages held
  pub length_is : length (with_buffers pages (starts_in pages count hs) held) ≡ count + length held

-- the places after the first are those beside it
places-more : (size pages count : ℕ) (held : List Interval) → 1 ≤ pages → (f : Fit 0 size pages held) →
    places size pages (suc count) held ≡ option_map (λ starts. first_fit pages (holes_of size held) ∷ starts)
    (places size pages count (with_interval (at_pages pages (first_fit pages (holes_of size held))) held))
places-more size pages count held one f =
    let start : ℕ = first_fit pages (holes_of size held) in
    let new : Interval = at_pages pages start in
    rw (least_start-fit size pages held one f)
    (ap (option_map (λ starts. start ∷ starts)) (places_same size pages count (new ∷ held) (with_interval new held) (λ p.
    sym (list_any-with_interval p new held))))

-- one more buffer before others
run_more : (size pages count : ℕ) (held : List Interval) → 1 ≤ pages → in_order 0 size held ≡ true → Fit 0 size pages held →
    Run size pages count (with_interval (at_pages pages (first_fit pages (holes_of size held))) held) (taken pages (holes_of size held)) →
    Run size pages (suc count) held (holes_of size held)
run_more size pages count held one order f r =
    let hs : List Interval = holes_of size held in
    let new : Interval = at_pages pages (first_fit pages hs) in
    let look = looks_at-first_fit pages 0 hs (spaced-holes 0 size held order) f.some in
    let more : suc count * pages ≡ count * pages + pages = suc-mul count pages in
    let added : total_pages (with_interval new held) ≡ pages + total_pages held = pages_in-with_interval new held in
    record {
      places_are = places-more size pages count held one f ∙ ap (option_map (λ starts. first_fit pages hs ∷ starts)) r.places_are;
      holes_are = r.holes_are;
      looks_are = omega (arith, look.1, r.looks_are);
      in_order = r.in_order;
      pages_are = omega (arith, r.pages_are);
      length_is = omega (arith, r.length_is, length-with_interval new held);
    }

-- buffers that all have room
pub run_of : (size pages count : ℕ) (held : List Interval) → 1 ≤ pages → in_order 0 size held ≡ true →
    count ≤ rooms pages (holes_of size held) → Run size pages count held (holes_of size held)
run_of size pages zero held one order le =
    record { places_are = refl; holes_are = refl; looks_are = refl; in_order = order; pages_are = omega arith; length_is = omega arith }
run_of size pages (suc count) held one order le =
    let hs : List Interval = holes_of size held in
    elim (fit_or_none 0 size pages held one order) [
      | inl f ↦
          let held' : List Interval = with_interval (at_pages pages (first_fit pages hs)) held in
          let left : count ≤ rooms pages (taken pages hs) = omega (arith, rooms-taken pages hs one f.some) in
          let r : Run size pages count held' (holes_of size held') =
          run_of size pages count held' one f.in_order (subst (λ hs. count ≤ rooms pages hs) (sym f.holes) left) in
          run_more size pages count held one order f (subst (Run size pages count held') f.holes r)
      | inr n ↦ absurd (omega (arith, n.rooms))
    ]

-- and where some buffer has none
pub places-none : (size pages count : ℕ) (held : List Interval) → 1 ≤ pages → in_order 0 size held ≡ true →
    rooms pages (holes_of size held) < count → places size pages count held ≡ None
places-none size pages zero held one order lt = absurd (omega arith)
places-none size pages (suc count) held one order lt =
    let hs : List Interval = holes_of size held in
    elim (fit_or_none 0 size pages held one order) [
      | inl f ↦
          let held' : List Interval = with_interval (at_pages pages (first_fit pages hs)) held in
          let left : rooms pages (taken pages hs) < count = omega (arith, rooms-taken pages hs one f.some) in
          let r : places size pages count held' ≡ None =
          places-none size pages count held' one f.in_order (subst (λ hs. rooms pages hs < count) (sym f.holes) left) in
          places-more size pages count held one f ∙ ap (option_map (λ starts. first_fit pages hs ∷ starts)) r
      | inr n ↦ rw (least_start-none size pages held n) refl
    ]
