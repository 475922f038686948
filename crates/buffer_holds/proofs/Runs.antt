-- The runs of a set: bits that stand side by side.
use lib.Count.{count_trailing_zeros}
use Rattle.std.proofs.Common.{◌≡◌, ◌≢◌, ◌+◌, ◌-◌, ◌/◌, ◌%◌, ◌^◌, ◌<◌, ◌≤◌, ◌==◌, ◌&&◌, refl, sym, ap, ◌∙◌, ℕ, zero, suc, Bool, true}
use Rattle.std.proofs.Common.{false, not, List, arith, get_or, if◌then◌else◌, length, nat_lt, set, Option, Some, unwrap_or, ◌⊎◌, ⊎_elim}
use Rattle.std.proofs.lemmas.List.{get_or-set_same, get_or-set_other}
use Rattle.std.proofs.lemmas.Bool.{cases_eq, cases_lt, eqb-false, eqb-true, false≢true, le-ltb, lt-ltb}
use Rattle.std.proofs.lemmas.Nat.{shr-shr}
use Rattle.std.proofs.lemmas.Nat.Bits.{bit_at_above, bit_at_ones, bit_at-pow_other, bit_at-trailing_ones, bit_at-zero}
use Rattle.std.specs.Int.{bit_at, trailing_ones, w64}
use Rattle.buffer_holds.specs.Pages.{cell_at, count_in, in_run, is_in, raised}

-- 1 where the test passes
abbrev pub one_if : Bool → ℕ
one_if b = if b then 1 else 0

-- a number of ones alone
whole_ones : trailing_ones w64 (2 ^ 64 - 1) ≡ 64
unfolding count_trailing_zeros
whole_ones = refl

-- the low ones of an odd number
pub low_ones : (low : ℕ) → low < 2 ^ 64 → bit_at low 0 ≡ 1 → (0 < trailing_ones w64 low) × (trailing_ones w64 low ≤ 64)
    × ((i : ℕ) → i < trailing_ones w64 low → bit_at low i ≡ 1)
low_ones low fits odd = ⊎_elim some all (cases_lt (low + 1) (2 ^ 64))
  where
    some : low + 1 < 2 ^ 64 → (0 < trailing_ones w64 low) × (trailing_ones w64 low ≤ 64) × ((i : ℕ) → i < trailing_ones w64 low →
        bit_at low i ≡ 1)
    some less =
        let ones = bit_at-trailing_ones w64 low less in (
          first (trailing_ones w64 low) refl ones.1,
          omega (arith, ones.0),
          ones.2,
        )
      where
        first : (n : ℕ) → trailing_ones w64 low ≡ n → bit_at low (trailing_ones w64 low) ≡ 0 → 0 < trailing_ones w64 low
        first zero e none = absurd (omega (arith, odd, none, ap (bit_at low) e))
        first (suc n) e none = omega (arith, e)

    all : 2 ^ 64 ≤ low + 1 → (0 < trailing_ones w64 low) × (trailing_ones w64 low ≤ 64) × ((i : ℕ) → i < trailing_ones w64 low →
        bit_at low i ≡ 1)
    all most =
        let whole : low ≡ 2 ^ 64 - 1 = omega (arith, fits, most) in
        let size : trailing_ones w64 low ≡ 64 = ap (trailing_ones w64) whole ∙ whole_ones in (
          omega (arith, size),
          omega (arith, size),
          λ i less. ap (λ n. bit_at n i) whole ∙ bit_at_ones 64 i (omega (arith, less, size)),
        )

-- a cell of a set of one
pub is_one : (slot at : ℕ) → is_in slot 1 at ≡ (slot == at)
is_one slot at = ⊎_elim before behind (cases_lt at slot)
  where
    other : (n m : ℕ) → (n ≡ m → ⊥) → (n == m) ≡ false
    other n m differ = by (n == m) refl
      where
        by : (b : Bool) → (n == m) ≡ b → b ≡ false
        by true e = absurd (differ (eqb-true n m e))
        by false e = refl

    itself : (n m : ℕ) → n ≡ m → (n == m) ≡ true
    itself n m same = by (n == m) refl
      where
        by : (b : Bool) → (n == m) ≡ b → b ≡ true
        by true e = refl
        by false e = absurd (eqb-false n m e same)

    before : at < slot → is_in slot 1 at ≡ (slot == at)
    before less =
        ap (λ b. not b && bit_at 1 (at - slot) == 1) (lt-ltb at slot less) ∙ sym (other slot at (λ e. omega (arith, e, less)))

    behind : slot ≤ at → is_in slot 1 at ≡ (slot == at)
    behind past = ap (λ b. not b && bit_at 1 (at - slot) == 1) (le-ltb at slot past) ∙ by (cases_eq at slot)
      where
        by : (at ≡ slot) ⊎ (at ≢ slot) → (bit_at 1 (at - slot) == 1) ≡ (slot == at)
        by = ⊎_elim equal apart
          where
            equal : at ≡ slot → (bit_at 1 (at - slot) == 1) ≡ (slot == at)
            equal same =
                let none : at - slot ≡ 0 = omega (arith, same) in
                ap (λ n. bit_at 1 n == 1) none ∙ sym (itself slot at (sym same))

            apart : at ≢ slot → (bit_at 1 (at - slot) == 1) ≡ (slot == at)
            apart differ =
                ap (λ n. n == 1) (bit_at-pow_other 0 (at - slot) (λ e. differ (omega (arith, e, past))))
                ∙ sym (other slot at (λ e. differ (sym e)))

-- it is that of the slot
pub one_is : (slot at : ℕ) → is_in slot 1 at ≡ true → slot ≡ at
one_is slot at is = eqb-true slot at (sym (is_one slot at) ∙ is)

-- what a cell counts that is raised
pub raised_count : (page : List (Option ℕ)) (first set at : ℕ) →
    unwrap_or (raised page first set at) 0 ≡ count_in page at + one_if (is_in first set at)
raised_count page first set at = by (is_in first set at)
  where
    by : (b : Bool) → unwrap_or (if b then Some (count_in page at + 1) else cell_at page at) 0 ≡ count_in page at + one_if b
    by true = refl
    by false = omega arith

-- what becomes of the cells where one is raised
pub raised_one : (page : List (Option ℕ)) (slot at : ℕ) → raised page slot 1 at ≡ (if slot == at then Some (count_in page slot + 1) else
    cell_at page at)
raised_one page slot at =
    ap (λ (b : Bool). if b then Some (count_in page at + 1) else cell_at page at) (is_one slot at) ∙ by (slot == at) refl
  where
    by : (b : Bool) → (slot == at) ≡ b → (if b then Some (count_in page at + 1) else cell_at page at) ≡ (if b then
        Some (count_in page slot + 1) else cell_at page at)
    by true e = ap (λ n. Some (count_in page n + 1)) (sym (eqb-true slot at e))
    by false e = refl

-- one more count of a run
pub run_next : (counts mid : List ℕ) (first at : ℕ) → first ≤ at → at < length mid
    → ((i : ℕ) → get_or mid i 0 ≡ get_or counts i 0 + one_if (not (nat_lt i first) && nat_lt i at)) → (i : ℕ) →
    get_or (set mid at (get_or mid at 0 + 1)) i 0 ≡ get_or counts i 0 + one_if (not (nat_lt i first) && nat_lt i (at + 1))
run_next counts mid first at from within was i = ⊎_elim same apart (cases_eq i at)
  where
    same : i ≡ at → get_or (set mid at (get_or mid at 0 + 1)) i 0 ≡ get_or counts i 0 + one_if (not (nat_lt i first) && nat_lt i (at + 1))
    same here =
        let before : nat_lt i first ≡ false = le-ltb i first (omega (arith, here, from)) in
        let not_yet : nat_lt i at ≡ false = le-ltb i at (omega (arith, here)) in
        let now : nat_lt i (at + 1) ≡ true = lt-ltb i (at + 1) (omega (arith, here)) in
        let old : get_or mid i 0 ≡ get_or counts i 0 + 0 =
        was i ∙ (λ j. get_or counts i 0 + one_if (not (nat_lt i first) && not_yet j)) ∙ (λ j. get_or counts i 0 + one_if (not (before j) && false)) in
        let new : get_or (set mid at (get_or mid at 0 + 1)) i 0 ≡ get_or mid at 0 + 1 =
        ap (λ k. get_or (set mid at (get_or mid at 0 + 1)) k 0) here ∙ get_or-set_same mid at (get_or mid at 0 + 1) 0 within in
        let last : get_or counts i 0 + 1 ≡ get_or counts i 0 + one_if (not (nat_lt i first) && nat_lt i (at + 1)) =
        λ j. get_or counts i 0 + one_if (not (sym before j) && sym now j) in
        omega (arith, new, old, last, ap (λ k. get_or mid k 0) here)

    apart : i ≢ at → get_or (set mid at (get_or mid at 0 + 1)) i 0 ≡ get_or counts i 0 + one_if (not (nat_lt i first) && nat_lt i (at + 1))
    apart other =
        get_or-set_other mid at i (get_or mid at 0 + 1) 0 other ∙ was i
        ∙ ap (λ b. get_or counts i 0 + one_if (not (nat_lt i first) && b))
        (⊎_elim (λ less. lt-ltb i at less ∙ sym (lt-ltb i (at + 1) (omega (arith, less))))
        (λ past. le-ltb i at past ∙ sym (le-ltb i (at + 1) (omega (arith, past, other)))) (cases_lt i at))

-- nothing more
plain : (b : Bool) → one_if (b && true) ≡ one_if (b && true) + 0
plain true = refl
plain false = refl

nothing : (b : Bool) → one_if (b && false) ≡ one_if (b && false) + 0
nothing true = refl
nothing false = refl

-- the counts of a set, as far as the cells were gone through
abbrev pub done : (counts counts' : List ℕ) (first set end : ℕ) → Type 0
done counts counts' first set end =
    (at : ℕ) → get_or counts' at 0 ≡ get_or counts at 0 + one_if (is_in first set at && nat_lt at end)

-- none at the start
pub done_none : (counts : List ℕ) (first set : ℕ) → done counts counts first set first
done_none counts first set at = by (nat_lt at first) (bit_at set (at - first) == 1)
  where
    by : (t b : Bool) → get_or counts at 0 ≡ get_or counts at 0 + one_if ((not t && b) && t)
    by true true = omega arith
    by true false = omega arith
    by false true = omega arith
    by false false = omega arith

module _ (first set at zeros ones rest : ℕ) (from : first ≤ at) (rest_is : rest ≡ set / 2 ^ (at - first))
    (none : (i : ℕ) → i < zeros → bit_at rest i ≡ 0) (all : (i : ℕ) → i < ones → bit_at (rest / 2 ^ zeros) i ≡ 1) where
  -- a bit of the set from this cell on
  bit_behind : (i : ℕ) → at ≤ i → bit_at set (i - first) ≡ bit_at rest (i - at)
  bit_behind i past =
      let place : i - first ≡ (at - first) + (i - at) = omega (arith, past, from) in
      ap (bit_at set) place ∙ ap (λ m. m % 2) (sym (shr-shr set (at - first) (i - at))) ∙ ap (λ m. bit_at m (i - at)) (sym rest_is)

  -- the cells up to the run are none of the set
  pub in_none : (i : ℕ) → at ≤ i → i < at + zeros → is_in first set i ≡ false
  in_none i past less =
      let here : nat_lt i first ≡ false = le-ltb i first (omega (arith, from, past)) in
      let bit : bit_at set (i - first) ≡ 0 = bit_behind i past ∙ none (i - at) (omega (arith, past, less)) in
      λ j. not (here j) && bit j == 1

  -- and those of the run are
  pub in_all : (i : ℕ) → at + zeros ≤ i → i < at + zeros + ones → is_in first set i ≡ true
  in_all i past less =
      let here : nat_lt i first ≡ false = le-ltb i first (omega (arith, from, past)) in
      let place : i - at ≡ zeros + (i - (at + zeros)) = omega (arith, past) in
      let bit : bit_at set (i - first) ≡ 1 =
      bit_behind i (omega (arith, past)) ∙ ap (bit_at rest) place ∙ ap (λ m. m % 2) (sym (shr-shr rest zeros (i - (at + zeros))))
      ∙ all (i - (at + zeros)) (omega (arith, past, less)) in
      λ j. not (here j) && bit j == 1

  -- one run more
  pub done_more : (counts mid counts' : List ℕ) → done counts mid first set at
      → ((i : ℕ) → get_or counts' i 0 ≡ get_or mid i 0 + one_if (in_run (at + zeros) ones i)) →
      done counts counts' first set (at + zeros + ones)
  done_more counts mid counts' was run i =
      omega (arith, was i, run i, tests)
    where
      tests : one_if (is_in first set i && nat_lt i (at + zeros + ones)) ≡ one_if (is_in first set i && nat_lt i at)
          + one_if (in_run (at + zeros) ones i)
      tests =
          ⊎_elim (λ less.
          let a = lt-ltb i at less in
          let b = lt-ltb i (at + zeros) (omega (arith, less)) in
          let d = lt-ltb i (at + zeros + ones) (omega (arith, less)) in
          (λ j. one_if (is_in first set i && d j)) ∙ plain (is_in first set i)
          ∙ (λ j. one_if (is_in first set i && sym a j) + one_if (not (sym b j) && nat_lt i (at + zeros + ones))))
          (λ past. ⊎_elim (λ less.
          let out = in_none i past less in
          let b = lt-ltb i (at + zeros) less in
          (λ j. one_if (out j && nat_lt i (at + zeros + ones)))
          ∙ (λ j. one_if (sym out j && nat_lt i at) + one_if (not (sym b j) && nat_lt i (at + zeros + ones))))
          (λ later. ⊎_elim (λ less.
          let inside = in_all i later less in
          let a = le-ltb i at past in
          let b = le-ltb i (at + zeros) later in
          let d = lt-ltb i (at + zeros + ones) less in
          (λ j. one_if (inside j && d j))
          ∙ (λ j. one_if (sym inside j && sym a j) + one_if (not (sym b j) && sym d j)))
          (λ end.
          let a = le-ltb i at past in
          let b = le-ltb i (at + zeros) later in
          let d = le-ltb i (at + zeros + ones) end in
          (λ j. one_if (is_in first set i && d j)) ∙ nothing (is_in first set i)
          ∙ (λ j. one_if (is_in first set i && sym a j) + one_if (not (sym b j) && sym d j)))
          (cases_lt i (at + zeros + ones))) (cases_lt i (at + zeros))) (cases_lt i at)

  -- the run ends within the set
  pub ends_within : 0 < ones → set < 2 ^ 64 → at + zeros + ones ≤ first + 64
  ends_within some fits = ⊎_elim (λ less. omega (arith, less, from)) (λ past. absurd (false≢true (out past)))
      (cases_lt (at + zeros + (ones - 1) - first) 64)
    where
      never : (b : Bool) → (not b && false) ≡ false
      never true = refl
      never false = refl

      out : 64 ≤ at + zeros + (ones - 1) - first → false ≡ true
      out past =
          let bit : bit_at set (at + zeros + (ones - 1) - first) ≡ 0 = bit_at_above set 64 (at + zeros + (ones - 1) - first) fits past in
          sym ((λ j. not (nat_lt (at + zeros + (ones - 1)) first) && bit j == 1) ∙ never (nat_lt (at + zeros + (ones - 1)) first))
          ∙ in_all (at + zeros + (ones - 1)) (omega arith) (omega (arith, some))

  -- what is left behind it
  pub rest_after : 0 < ones → rest / 2 ^ zeros / 2 / 2 ^ (ones - 1) ≡ set / 2 ^ (at + zeros + ones - first)
  rest_after some =
      let more : 1 + (ones - 1) ≡ ones = omega (arith, some) in
      let place : (at - first) + (zeros + ones) ≡ at + zeros + ones - first = omega (arith, from) in
      shr-shr (rest / 2 ^ zeros) 1 (ones - 1)
      ∙ ap (λ m. rest / 2 ^ zeros / 2 ^ m) more
      ∙ shr-shr rest zeros ones
      ∙ ap (λ m. m / 2 ^ (zeros + ones)) rest_is
      ∙ shr-shr set (at - first) (zeros + ones)
      ∙ ap (λ m. set / 2 ^ m) place

  -- where nothing is left of the set, its cells were gone through
  pub none_left : rest ≡ 0 → (i : ℕ) → is_in first set i ≡ true → i < at
  none_left nothing_left i is = ⊎_elim (λ less. less) (λ past.
      let here : nat_lt i first ≡ false = le-ltb i first (omega (arith, from, past)) in
      let bit : bit_at set (i - first) ≡ 0 = bit_behind i past ∙ ap (λ m. bit_at m (i - at)) nothing_left ∙ bit_at-zero (i - at) in
      absurd (false≢true (sym (λ j. not (here j) && bit j == 1) ∙ is))) (cases_lt i at)
