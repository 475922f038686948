-- What the fields of a pool give for buffers that are placed, and keep.
use Rattle.buffer_pool.proofs.Common.{All, AreFirstFits, AreGaps, Interval, IsPoolSound, IsSane, List, MAX_PAGES, None, Some, []}
use Rattle.buffer_pool.proofs.Common.{and_parts, ap, arith, at_pages, drop, first_fit, get_or, has_room, holes_after, holes_of, inl, inr}
use Rattle.buffer_pool.proofs.Common.{leb-true, length, looks_for, looks_in, nat_le, places, refl, rooms, starts_in, subst, sym, taken}
use Rattle.buffer_pool.proofs.Common.{true, with_buffers, with_interval, ℕ, ◌*◌, ◌+◌, ◌-◌, ◌<◌, ◌∙◌, ◌∷◌, ◌≡◌, ◌≤◌}
use Rattle.buffer_pool.specs.Placing.{PlacesBuffers}
use Rattle.buffer_pool.proofs.Orders.{pages_in-le}
use Rattle.buffer_pool.proofs.Gaps.{holes-end, length-holes, spaced-holes}
use Rattle.buffer_pool.proofs.Greatest.{spaced-pages}
use Rattle.buffer_pool.proofs.Least.{fit_or_none}
use Rattle.buffer_pool.proofs.Taking.{length-starts}
use Rattle.buffer_pool.proofs.Placing.{Run, run_of, rooms-taken, looks_in-bounds, places-none}

-- the holes are the gaps
pub gaps_of : (size free : ℕ) (holes held : List Interval) (capacity : ℕ) → IsPoolSound size free holes held capacity →
    AreGaps size holes held
gaps_of size free holes held capacity k = record { sized = k.sized.1; in_order = k.in_order; holes_are = k.holes_are }

-- the facts on the lists of a pool's gaps
pub record Lists (holes : List Interval) : Type 0 where
  pub sane : All IsSane holes
  pub few : length holes ≤ MAX_PAGES

-- holes end inside the pool, and each has a page
pub lists_of : (size : ℕ) (holes held : List Interval) → AreGaps size holes held → Lists holes
lists_of size holes held g =
    let small = g.sized in
    subst Lists (sym g.holes_are)
    (record {
      sane = λ j d lt. (
        spaced-pages 0 (holes_of size held) (spaced-holes 0 size held g.in_order) j d lt,
        omega (arith, holes-end 0 size held g.in_order j d lt),
      );
      few = omega (arith, (length-holes 0 size held g.in_order).0);
    })

-- the buffers that have room lie where first fit puts them
pub first_fits : (size pages count : ℕ) (holes held : List Interval) (starts : List ℕ) → AreGaps size holes held →
    count ≤ rooms pages holes → starts ≡ starts_in pages count holes → AreFirstFits size pages starts held
first_fits size pages count holes held starts g le is =
    let many : length starts ≡ count = ap length is ∙ length-starts pages count holes in
    record {
      in_order = g.in_order;
      has_rooms = omega (arith, ap (rooms pages) g.holes_are);
      starts_are = is ∙ (λ i. starts_in pages (sym many i) (g.holes_are i));
    }

-- what placing the next of them leaves
pub record IsHeldNext (size pages s : ℕ) (ss : List ℕ) (held : List Interval) : Type 0 where
  pub inside : s + pages ≤ size
  pub free : has_room size held (at_pages pages s) ≡ true
  pub rest : AreFirstFits size pages ss (with_interval (at_pages pages s) held)

-- the first fit has room, and the others are those of the holes that it leaves
pub held_next : (size pages s : ℕ) (ss : List ℕ) (held : List Interval) → 1 ≤ pages → AreFirstFits size pages (s ∷ ss) held →
    IsHeldNext size pages s ss held
held_next size pages s ss held one a =
    let hs : List Interval = holes_of size held in
    elim (fit_or_none 0 size pages held one a.in_order) [
      | inl f ↦
          let first : s ≡ first_fit pages hs = ap (λ (xs : List ℕ). get_or xs 0 0) a.starts_are in
          let others : ss ≡ starts_in pages (length ss) (taken pages hs) = ap (λ (xs : List ℕ). drop 1 xs) a.starts_are in
          subst (λ t. IsHeldNext size pages t ss held) (sym first)
          (record {
            inside = leb-true _ _ (and_parts (nat_le (first_fit pages hs + pages) size) _ f.least.is_free).0;
            free = f.least.is_free;
            rest = record {
              in_order = f.in_order;
              has_rooms = omega (arith, a.has_rooms, rooms-taken pages hs one f.some, ap (rooms pages) f.holes);
              starts_are = others ∙ ap (starts_in pages (length ss)) (sym f.holes);
            };
          })
      | inr n ↦ absurd (omega (arith, a.has_rooms, n.rooms))
    ]

-- the facts where all buffers have room
pub record KeepsRun (size free count pages : ℕ) (holes held : List Interval) : Type 0 where
  pub run : Run size pages count held holes
  pub enough : count ≤ looks_in pages count holes
  pub few : looks_in pages count holes ≤ count * length (holes_of size held)
  pub small : count * pages < 4294967296
  pub taken : count * pages ≤ free
  pub kept : (capacity : ℕ) → length held + count ≤ capacity →
      IsPoolSound size (free - count * pages) (holes_after pages count holes)
      (with_buffers pages (starts_in pages count holes) held) capacity

-- if all buffers have room, the looks for them are bounded, and the pool stays sound with them
pub keeps_run : (size free count pages : ℕ) (holes held : List Interval) (capacity : ℕ) → 1 ≤ pages →
    IsPoolSound size free holes held capacity →
    count ≤ rooms pages holes → KeepsRun size free count pages holes held
keeps_run size free count pages holes held capacity one k room =
    let room' : count ≤ rooms pages (holes_of size held) = subst (λ hs. count ≤ rooms pages hs) k.holes_are room in
    let r : Run size pages count held holes =
    subst (Run size pages count held) (sym k.holes_are) (run_of size pages count held one k.in_order room') in
    let bounds = looks_in-bounds pages count (holes_of size held) one room' in
    let inside = pages_in-le 0 size (with_buffers pages (starts_in pages count holes) held) r.in_order in
    let taken : count * pages ≤ free = omega (arith, inside, r.pages_are, k.free_are) in
    record {
      run = r;
      enough = subst (λ hs. count ≤ looks_in pages count hs) (sym k.holes_are) bounds.0;
      few = subst (λ hs. looks_in pages count hs ≤ count * length (holes_of size held)) (sym k.holes_are) bounds.1;
      small = omega (arith, k.free_are, k.sized.1);
      taken = taken;
      kept = λ capacity' room.
          record {
            sized = k.sized;
            in_order = r.in_order;
            holes_are = sym r.holes_are;
            free_are = omega (arith, r.pages_are, k.free_are);
            has_capacity = omega (arith, r.length_is);
          };
    }

-- what callers learn of buffers that are placed
pub places_buffers : (size free count pages : ℕ) (holes held holes' held' new : List Interval) (starts : List ℕ) (looks : ℕ) →
    KeepsRun size free count pages holes held → holes' ≡ holes → held' ≡ held → starts ≡ starts_in pages count holes' →
    looks ≡ looks_in pages count holes' → new ≡ with_buffers pages (starts_in pages count holes') held' →
    PlacesBuffers (record { size = size; held = held }) (record { size = size; held = new }) count pages starts looks
places_buffers size free count pages holes held holes' held' new starts looks k same_holes same_held s l n =
    let starts_are : starts ≡ starts_in pages count holes = s ∙ ap (starts_in pages count) same_holes in
    let looks_are : looks ≡ looks_in pages count holes = l ∙ ap (looks_in pages count) same_holes in
    let held_are : new ≡ with_buffers pages starts held =
    n ∙ (λ i. with_buffers pages (starts_in pages count (same_holes i)) (same_held i))
    ∙ ap (λ ss. with_buffers pages ss held) (sym starts_are) in
    record {
      starts_are = k.run.places_are ∙ ap Some (sym starts_are);
      held_are = λ i. record { size = size; held = held_are i };
      looks_are = looks_are ∙ sym k.run.looks_are ∙ ap (λ ss. looks_for size pages ss held) (sym starts_are);
      looks_enough = omega (arith, k.enough);
      looks_few = omega (arith, k.few);
    }

-- where all have a place the pool is not full
pub not_full : (size pages count : ℕ) (held : List Interval) (starts : List ℕ) (Q : Type 0) → places size pages count held ≡ Some starts →
    places size pages count held ≡ None → Q
not_full size pages count held starts Q some none = cc

-- where some buffer has no place it is
pub is_full : (size free count pages : ℕ) (holes held : List Interval) (capacity : ℕ) → 1 ≤ pages →
    IsPoolSound size free holes held capacity →
    rooms pages holes < count → places size pages count held ≡ None
is_full size free count pages holes held capacity one k lt =
    places-none size pages count held one k.in_order (subst (λ hs. rooms pages hs < count) k.holes_are lt)
