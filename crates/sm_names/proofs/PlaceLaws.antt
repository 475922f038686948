-- Each buffer is placed at the first start with room, whatever the order of the pages that are held.
use Rattle.std.proofs.Common.{ℕ, zero, suc, ◌≡◌, ◌≤◌, ◌<◌, ◌+◌, refl, ap, sym, ◌∙◌, subst, Bool, true, false, not}
use Rattle.std.proofs.Common.{◌&&◌, ◌||◌, nat_lt, nat_le, inl, inr, List, [], ◌∷◌, length, Some, None, arith}
use Rattle.std.proofs.lemmas.Bool.{ltb-true, ltb-false}
use Rattle.std.specs.List.{list_any, find, range_with_len}
use Rattle.std.specs.Option.{option_map, option_and_then}
use Rattle.sm_names.specs.declared.keys.Interval.{Interval}
use Rattle.sm_names.specs.Apart.{at_pages, IsFirst, AreFirst}
use Rattle.sm_names.specs.Pages.{meets, has_room, least_start, places}
use Rattle.sm_names.proofs.SamenessLaws.{either_way, none_or_some, map-Some}

-- ---- the first number that passes a test

-- of the numbers from `from` on, this many, this one passes first
record IsLeast (test : ℕ → Bool) (from many n : ℕ) : Type 0 where
  late : from ≤ n
  early : n < from + many
  passes : test n ≡ true
  others : (k : ℕ) → from ≤ k → k < n → test k ≡ false

-- what is found is the first that passes
find_least : (test : ℕ → Bool) (from many n : ℕ) → find test (range_with_len from many) ≡ Some n → IsLeast test from many n
find_least test from zero n h = cc
find_least test from (suc many) n h =
    elim (either_way (test from)) [
      | inl e ↦
          let same : Some from ≡ Some n = rw e at h in
          let is : from ≡ n = cc in
          subst (IsLeast test from (suc many)) is
          (record { late = omega arith; early = omega arith; passes = e; others = λ k a b. absurd (omega arith) })
      | inr e ↦
          let r : IsLeast test (from + 1) many n = find_least test (from + 1) many n (rw e at h) in
          let late : from + 1 ≤ n = r.late in
          let early : n < from + 1 + many = r.early in
          record {
            late = omega arith;
            early = omega arith;
            passes = r.passes;
            others = λ k a b. elim (either_way (nat_lt from k)) [
              | inl l ↦ let lt : from < k = ltb-true from k l in r.others k (omega arith) b
              | inr l ↦
                  let le : k ≤ from = ltb-false from k l in
                  let is : from ≡ k = omega arith in
                  ap test (sym is) ∙ e
            ];
          }
    ]

-- ---- the first start with room

module _ (pool pages : ℕ) (held : List Interval) where
  -- the test that the pages have room at a start
  abbrev fits_at : ℕ → Bool
  fits_at start = has_room pool held (at_pages pages start)

  -- the start that is found is the first
  pub start_is_first : (start : ℕ) → least_start pool pages held ≡ Some start → IsFirst pool pages held start
  start_is_first start h =
      let r : IsLeast fits_at 0 pool start = find_least fits_at 0 pool start h in
      let early : start < 0 + pool = r.early in
      record { below = omega arith; fits = r.passes; least = λ earlier less. r.others earlier (omega arith) less }

-- ---- the starts of several buffers

-- places are first ones
pub places_first : (pool pages count : ℕ) (held : List Interval) (starts : List ℕ) → places pool pages count held ≡ Some starts →
    (length starts ≡ count) × AreFirst pool pages held starts
places_first pool pages zero held starts h =
    let is : [] ≡ starts = cc in
    subst (λ (ss : List ℕ). (length ss ≡ 0) × AreFirst pool pages held ss) is (refl, tt)
places_first pool pages (suc count) held starts h =
    elim (none_or_some (least_start pool pages held)) [
      | inl e ↦ let no : None ≡ Some starts = rw e at h in cc
      | inr found ↦
          let more : option_map (λ (ss : List ℕ). found.0 ∷ ss) (places pool pages count (at_pages pages found.0 ∷ held)) ≡ Some starts =
          rw found.1 at h in
          let t = map-Some (λ (ss : List ℕ). found.0 ∷ ss) (places pool pages count (at_pages pages found.0 ∷ held)) starts more in
          let rest = places_first pool pages count (at_pages pages found.0 ∷ held) t.0 t.1 in
          subst (λ (ss : List ℕ). (length ss ≡ suc count) × AreFirst pool pages held ss) t.2
          (ap suc rest.0, (start_is_first pool pages held found.0 found.1, rest.1))
    ]

-- ---- the order of the pages that are held

-- where the same pages are held, in whatever order, the places are the same
pub places_same : (pool pages count : ℕ) (held other : List Interval) →
    ((test : Interval → Bool) → list_any test held ≡ list_any test other) →
    places pool pages count held ≡ places pool pages count other
places_same pool pages zero held other same = refl
places_same pool pages (suc count) held other same =
    λ i. option_and_then
    (λ start. option_map (λ starts. start ∷ starts)
    (places_same pool pages count (at_pages pages start ∷ held) (at_pages pages start ∷ other) (λ test j.
    test (at_pages pages start) || same test j) i))
    (find (λ start. nat_le (start + pages) pool && not (same (meets (at_pages pages start)) i)) (range_with_len 0 pool))
