-- Where buffers have places, and where some buffer has no room.
use Rattle.history_laws.proofs.Common.{Bool, Interval, List, None, Some, [], ap, arith, at_pages, both_ways, either_way, false, find}
use Rattle.history_laws.proofs.Common.{has_room, inl, inr, least_start, length, ltb-false, ltb-true, nat_lt, none_or_some, option_map}
use Rattle.history_laws.proofs.Common.{places, range_with_len, refl, suc, sym, zero, ℕ, ◌+◌, ◌<◌, ◌∙◌, ◌∷◌, ◌≡◌, ◌≤◌}
use Rattle.sm_names.specs.Apart.{IsFirst, AreFirst, with_placed, IsFull}
use Rattle.sm_names.proofs.PlaceLaws.{start_is_first}
use Rattle.sm_names.proofs.SamenessLaws.{map-None}

-- where nothing is found, none passes
find_none : (test : ℕ → Bool) (from many : ℕ) → find test (range_with_len from many) ≡ None → (k : ℕ) → from ≤ k → k < from + many →
    test k ≡ false
find_none test from zero h k a b = absurd (omega arith)
find_none test from (suc many) h k a b =
    elim (either_way (test from)) [
      | inl e ↦ let no : Some from ≡ None = rw e at h in cc
      | inr e ↦ elim (either_way (nat_lt from k)) [
        | inl l ↦ let lt : from < k = ltb-true from k l in find_none test (from + 1) many (rw e at h) k (omega arith) (omega arith)
        | inr l ↦
            let le : k ≤ from = ltb-false from k l in
            let is : from ≡ k = omega arith in
            ap test (sym is) ∙ e
      ]
    ]

-- ---- the first start with room

module _ (pool pages : ℕ) (held : List Interval) where
  -- the test that the pages have room at a start
  abbrev fits_at : ℕ → Bool
  fits_at start = has_room pool held (at_pages pages start)

  -- where none is found, there is no room
  no_start : least_start pool pages held ≡ None → IsFull pool pages held
  no_start h start less = find_none fits_at 0 pool h start (omega arith) (omega (arith, less))

  -- and the first is the one that is found
  first_is_start : (start : ℕ) → IsFirst pool pages held start → least_start pool pages held ≡ Some start
  first_is_start start first =
      elim (none_or_some (least_start pool pages held)) [
        | inl e ↦ both_ways (fits_at start) first.fits (no_start e start first.below)
        | inr found ↦ found.1 ∙ ap Some (same found.0 (start_is_first pool pages held found.0 found.1))
      ]
    where
      same : (other : ℕ) → IsFirst pool pages held other → other ≡ start
      same other it =
          elim (either_way (nat_lt other start)) [
            | inl l ↦ both_ways (fits_at other) it.fits (first.least other (ltb-true other start l))
            | inr l ↦ elim (either_way (nat_lt start other)) [
              | inl m ↦ both_ways (fits_at start) first.fits (it.least start (ltb-true start other m))
              | inr m ↦
                  let a : start ≤ other = ltb-false other start l in
                  let b : other ≤ start = ltb-false start other m in
                  omega arith
            ]
          ]

  -- and where there is no room, none is found
  full_no_start : IsFull pool pages held → least_start pool pages held ≡ None
  full_no_start full =
      elim (none_or_some (least_start pool pages held)) [
        | inl e ↦ e
        | inr found ↦
            let first = start_is_first pool pages held found.0 found.1 in
            both_ways (fits_at found.0) first.fits (full found.0 first.below)
      ]

-- ---- the starts of several buffers

-- starts that are first are the places
pub first_places : (pool pages count : ℕ) (held : List Interval) (starts : List ℕ) → length starts ≡ count →
    AreFirst pool pages held starts → places pool pages count held ≡ Some starts
first_places pool pages zero held [] many first = refl
first_places pool pages zero held (start ∷ starts) many first = cc
first_places pool pages (suc count) held [] many first = cc
first_places pool pages (suc count) held (start ∷ starts) many first =
    let fewer : length starts ≡ count = omega (arith, many) in
    rw (first_is_start pool pages held start first.0, first_places pool pages count (at_pages pages start ∷ held) starts fewer first.1) refl

-- some buffers have places, but fewer than there are, and then there is no room for one more
abbrev pub IsStuck : (pool pages count : ℕ) (held : List Interval) → Type 0
IsStuck pool pages count held =
    (starts : List ℕ) × (length starts < count) × AreFirst pool pages held starts × IsFull pool pages (with_placed pages starts held)

-- where there are no places, some buffer has no room
pub places_stuck : (pool pages count : ℕ) (held : List Interval) → places pool pages count held ≡ None → IsStuck pool pages count held
places_stuck pool pages zero held h = cc
places_stuck pool pages (suc count) held h =
    elim (none_or_some (least_start pool pages held)) [
      | inl e ↦ ([], omega arith, tt, no_start pool pages held e)
      | inr found ↦
          let more : option_map (λ (ss : List ℕ). found.0 ∷ ss) (places pool pages count (at_pages pages found.0 ∷ held)) ≡ None =
          rw found.1 at h in
          let rest : IsStuck pool pages count (at_pages pages found.0 ∷ held) =
          places_stuck pool pages count (at_pages pages found.0 ∷ held) (map-None (λ (ss : List ℕ).
          found.0 ∷ ss) (places pool pages count (at_pages pages found.0 ∷ held)) more) in
          let fewer : length rest.0 < count = rest.1 in
          (found.0 ∷ rest.0, omega (arith, fewer), (start_is_first pool pages held found.0 found.1, rest.2), rest.3)
    ]

-- and where some buffer has no room, there are no places
pub stuck_places : (pool pages count : ℕ) (held : List Interval) (starts : List ℕ) → length starts < count →
    AreFirst pool pages held starts → IsFull pool pages (with_placed pages starts held) →
    places pool pages count held ≡ None
stuck_places pool pages zero held starts fewer first full = absurd (omega arith)
stuck_places pool pages (suc count) held [] fewer first full = rw (full_no_start pool pages held full) refl
stuck_places pool pages (suc count) held (start ∷ starts) fewer first full =
    let less : length starts < count = omega (arith, fewer) in
    rw (first_is_start pool pages held start first.0, stuck_places pool pages count (at_pages pages start ∷ held) starts less first.1 full)
    refl
