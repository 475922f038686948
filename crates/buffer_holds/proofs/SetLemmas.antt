-- The handles on a set of buffers.
use Rattle.buffer_holds.proofs.Common.{AddsSet, Bool, BufferName, Counts, Gains, HasRoomIn, Owner, Strength, Strong, Weak, and_parts, ap}
use Rattle.buffer_holds.proofs.Common.{arith, bit_at, bit_at-trailing_zeros, bit_at-zero, bit_at_above, cases_lt, common_steps, eqb-true}
use Rattle.buffer_holds.proofs.Common.{false, false≢true, has_handle_room, hold_of, if◌then◌else◌, is_in, kind_of, le-ltb, lt-ltb, nat_lt}
use Rattle.buffer_holds.proofs.Common.{not, of, owner_of, part_of, refl, same_handle_kind, same_owner, same_part, same_strength}
use Rattle.buffer_holds.proofs.Common.{same_strength-true, slot_for, slot_of, subst, sym, total, trailing_zeros, true, w64, ℕ, ⊎_elim}
use Rattle.buffer_holds.proofs.Common.{◌%◌, ◌&&◌, ◌+◌, ◌-◌, ◌/◌, ◌<◌, ◌==◌, ◌^◌, ◌||◌, ◌∙◌, ◌≡◌, ◌≤◌}
use Rattle.buffer_holds.specs.Changes.{is_in_set_below}

-- 1 where the test passes
abbrev one_if : Bool → ℕ
one_if b = if b then 1 else 0

-- ---- one count, where only that of these handles changes

-- it grows
pub up : {new old at : ℕ} (x : Bool) → new ≡ (if x then at + 1 else old) → (x ≡ true → at ≡ old) → new ≡ old + one_if x
up true is one = let here = one refl in omega arith
up false is one = omega arith

-- it stays
pub still : {new old at : ℕ} (x : Bool) → new ≡ (if x then at else old) → (x ≡ true → at ≡ old) → new ≡ old
still true is one = is ∙ one refl
still false is one = is

-- ---- tests

-- a number that is not the next is below it only where it is below this one
next_lt : (n m : ℕ) → (m == n) ≡ false → nat_lt n (m + 1) ≡ nat_lt n m
next_lt n m other = grind (arith, common_steps)

-- nothing is added
plus_zero : (n : ℕ) → n + 0 ≡ n
plus_zero n = omega arith

-- a test that fails fails beside others
and_false : (a b c : Bool) → (a && (b && (c && false))) ≡ false
and_false true true true = refl
and_false true true false = refl
and_false true false c = refl
and_false false b c = refl

-- the buffer is one of the set if its page and its cell are
in_set : (strength s : Strength) (set index : ℕ) → set < 2 ^ 64 →
    ((0 == index / 64) && is_in (slot_for 0 strength) set (slot_for (index % 64) s)) ≡ (same_strength strength s
    && (bit_at set index == 1 && nat_lt index 64))
in_set strength s set index fits = ⊎_elim small large (cases_lt index 64)
  where
    large : 64 ≤ index → ((0 == index / 64) && is_in (slot_for 0 strength) set (slot_for (index % 64) s)) ≡ (same_strength strength s
        && (bit_at set index == 1 && nat_lt index 64))
    large past =
        let other : (0 == index / 64) ≡ false = by (0 == index / 64) refl in
        ap (λ b. b && is_in (slot_for 0 strength) set (slot_for (index % 64) s)) other
        ∙ sym (ap (λ b. same_strength strength s && (bit_at set index == 1 && b)) (le-ltb index 64 past)
        ∙ never (same_strength strength s) (bit_at set index == 1))
      where
        by : (b : Bool) → (0 == index / 64) ≡ b → b ≡ false
        by true e = let same = eqb-true 0 (index / 64) e in absurd (omega (arith, same, past))
        by false e = refl

        never : (a b : Bool) → (a && (b && false)) ≡ false
        never true true = refl
        never true false = refl
        never false b = refl

    by_strength : (strength s : Strength) → index < 64 → is_in (slot_for 0 strength) set (slot_for index s) ≡ (same_strength strength s
        && (bit_at set index == 1 && true))
    by_strength Strong Strong less =
        let here : nat_lt index 0 ≡ false = le-ltb index 0 (omega arith) in
        let same : index - 0 ≡ index = omega arith in
        (λ i. not (here i) && bit_at set (same i) == 1) ∙ back (bit_at set index == 1)
      where
        back : (b : Bool) → b ≡ (b && true)
        back true = refl
        back false = refl
    by_strength Weak Weak less =
        let here : nat_lt (index + 64) 64 ≡ false = le-ltb (index + 64) 64 (omega arith) in
        let same : index + 64 - 64 ≡ index = omega arith in
        (λ i. not (here i) && bit_at set (same i) == 1) ∙ back (bit_at set index == 1)
      where
        back : (b : Bool) → b ≡ (b && true)
        back true = refl
        back false = refl
    by_strength Strong Weak less =
        let none : bit_at set (index + 64) ≡ 0 = bit_at_above set 64 (index + 64) fits (omega arith) in
        let here : nat_lt (index + 64) 0 ≡ false = le-ltb (index + 64) 0 (omega arith) in
        let same : index + 64 - 0 ≡ index + 64 = omega arith in
        (λ i. not (here i) && bit_at set (same i) == 1) ∙ ap (λ n. n == 1) none
    by_strength Weak Strong less = ap (λ b. not b && bit_at set (index - 64) == 1) (lt-ltb index 64 less)

    small : index < 64 → ((0 == index / 64) && is_in (slot_for 0 strength) set (slot_for (index % 64) s)) ≡ (same_strength strength s
        && (bit_at set index == 1 && nat_lt index 64))
    small less =
        let first : index / 64 ≡ 0 = omega (arith, less) in
        let place : index % 64 ≡ index = omega (arith, less) in
        (λ i. (0 == first i) && is_in (slot_for 0 strength) set (slot_for (place i) s))
        ∙ by_strength strength s less
        ∙ ap (λ b. same_strength strength s && (bit_at set index == 1 && b)) (sym (lt-ltb index 64 less))

module _ (collection : ℕ) (strength : Strength) (set : ℕ) where
  -- the buffer with this index
  abbrev at : ℕ → BufferName
  at index = record { collection = collection; index = index }

  -- it is the one with this index, of this strength
  abbrev is_at : ℕ → BufferName → Strength → Bool
  is_at index b s = same_handle_kind (kind_of (at index) strength) (kind_of b s)

  -- it is one of the set, below this index
  abbrev below : ℕ → BufferName → Strength → Bool
  below end b s = is_in_set_below collection strength set end b s

  -- the buffers of the set below the next index are those below this one, and the one with this index
  pub next_below : (who : Bool) (index : ℕ) (b : BufferName) (s : Strength) → bit_at set index ≡ 1 →
      one_if (who && below (index + 1) b s) ≡ one_if (who && below index b s) + one_if (who && is_at index b s)
  next_below who index b s has = split who (collection == b.collection) (same_strength strength s) (index == b.index) refl
    where
      split : (who here strong same : Bool) → (index == b.index) ≡ same →
          one_if (who && (here && (strong && (bit_at set b.index == 1 && nat_lt b.index (index + 1)))))
          ≡ one_if (who && (here && (strong && (bit_at set b.index == 1 && nat_lt b.index index)))) + one_if
          (who && ((here && same) && strong))
      split false here strong same is = refl
      split true false strong same is = refl
      split true true false true is = refl
      split true true false false is = refl
      split true true true true is =
          let here : index ≡ b.index = eqb-true index b.index is in
          let bit : bit_at set b.index ≡ 1 = ap (bit_at set) (sym here) ∙ has in
          rw bit (grind (arith, common_steps))
      split true true true false is = ap (λ t. one_if (bit_at set b.index == 1 && t)) (next_lt b.index index is) ∙ sym (plus_zero _)

  -- nothing is below 0
  pub nothing_below : (b : BufferName) (s : Strength) → below 0 b s ≡ false
  nothing_below b s =
      let never : nat_lt b.index 0 ≡ false = grind (arith, common_steps) in
      rw never (and_false (collection == b.collection) (same_strength strength s) (bit_at set b.index == 1))

-- what is gained in the cells of a set is opened on its buffers
module _ (client collection : ℕ) (strength : Strength) (set : ℕ) (fits : set < 2 ^ 64) where
  -- the first cell, and whose page it is in
  abbrev owner : Owner
  owner = owner_of (hold_of client (record { collection = collection; index = 0 }) strength)

  abbrev first : ℕ
  first = slot_of (kind_of (record { collection = collection; index = 0 }) strength)

  turn : (a b c : Bool) → ((a && b) && c) ≡ (a && (b && c))
  turn false b c = refl
  turn true b c = refl

  pub in_part : (b : BufferName) (s : Strength) → (same_part owner.part (part_of (kind_of b s)) && is_in first set (slot_of (kind_of b s)))
      ≡ is_in_set_below collection strength set 64 b s
  in_part b s =
      turn (collection == b.collection) (0 == b.index / 64) (is_in first set (slot_of (kind_of b s)))
      ∙ ap (λ t. collection == b.collection && t) (in_set strength s set b.index fits)

  in_page : (c : ℕ) (b : BufferName) (s : Strength) → (same_owner owner (owner_of (hold_of c b s)) && is_in first set (slot_of (kind_of b s)))
      ≡ (client == c && is_in_set_below collection strength set 64 b s)
  in_page c b s =
      turn (client == c) (same_part owner.part (part_of (kind_of b s))) (is_in first set (slot_of (kind_of b s)))
      ∙ ap (λ t. client == c && t) (in_part b s)

  pub adds_gained : (old new : Counts) → Gains old new owner first set → AddsSet old new client collection strength set 64
  adds_gained old new gains = record {
    limit = gains.limit;
    places = gains.places;
    counts = λ c b s. gains.counts c b s ∙ ap (λ t. of old c b s + one_if t) (in_page c b s);
    parcels = gains.parcels;
    totals = λ b s. gains.totals b s ∙ ap (λ t. total old b s + one_if t) (in_part b s);
    sent = gains.sent;
    rooms = λ c b s. gains.rooms c b s ∙ ap (λ t. t || has_handle_room old c b s) (in_page c b s);
  }

  -- a bit of the set is a buffer of it
  pub bit_in : (b : BufferName) (s : Strength) → same_part owner.part (part_of (kind_of b s)) ≡ true →
      is_in first set (slot_of (kind_of b s)) ≡ true →
      (b ≡ record { collection = collection; index = b.index }) × (s ≡ strength) × (bit_at set b.index ≡ 1)
  bit_in b s part cell =
      let inside : is_in_set_below collection strength set 64 b s ≡ true = sym (in_part b s) ∙ (λ i. part i && cell i) in
      let first_two = and_parts (collection == b.collection) (same_strength strength s && (bit_at set b.index == 1 && nat_lt b.index 64))
      inside in
      let last_two = and_parts (same_strength strength s) (bit_at set b.index == 1 && nat_lt b.index 64) first_two.1 in
      let bit = and_parts (bit_at set b.index == 1) (nat_lt b.index 64) last_two.1 in (
        λ i. record { collection = sym (eqb-true collection b.collection first_two.0) i; index = b.index },
        sym (same_strength-true strength s last_two.0),
        eqb-true (bit_at set b.index) 1 bit.0,
      )

  -- so fewer than may be are open there
  pub set_fewer : (old : Counts) → ((index : ℕ) → bit_at set index ≡ 1 →
      total old (record { collection = collection; index = index }) strength < old.limit) → HasRoomIn old owner first set
  set_fewer old fewer b s part cell =
      let found = bit_in b s part cell in
      let same : total old b s ≡ total old (record { collection = collection; index = b.index }) strength =
      λ i. total old (found.0 i) (found.1 i) in
      omega (arith, same, fewer b.index found.2)

  -- its cells are those of a page
  pub set_there : (at : ℕ) → is_in first set at ≡ true → at < 128
  set_there at is = ⊎_elim (λ less. less) (λ past. absurd (false≢true (sym (by strength past) ∙ is))) (cases_lt at 128)
    where
      by : (s : Strength) → 128 ≤ at → is_in (slot_for 0 s) set at ≡ false
      by Strong past =
          let here : nat_lt at 0 ≡ false = le-ltb at 0 (omega arith) in
          let bit : bit_at set (at - 0) ≡ 0 = bit_at_above set 64 (at - 0) fits (omega (arith, past)) in
          λ i. not (here i) && bit i == 1
      by Weak past =
          let here : nat_lt at 64 ≡ false = le-ltb at 64 (omega (arith, past)) in
          let bit : bit_at set (at - 64) ≡ 0 = bit_at_above set 64 (at - 64) fits (omega (arith, past)) in
          λ i. not (here i) && bit i == 1

  -- a set of something has a buffer, which is counted in the page
  pub some_bit : 0 < set → (index : ℕ) × (bit_at set index ≡ 1)
      × (same_part owner.part (part_of (kind_of (record { collection = collection; index = index }) strength)) ≡ true)
  some_bit some =
      let lowest = bit_at-trailing_zeros w64 set some fits in
      let number : trailing_zeros w64 set / 64 ≡ 0 = omega (arith, lowest.0) in (
        trailing_zeros w64 set,
        lowest.1,
        (λ i. collection == collection && (0 == number i)) ∙ itself collection,
      )
    where
      itself : (n : ℕ) → ((n == n) && true) ≡ true
      itself n = grind (arith, common_steps)

  -- told of the owner and the cell that the code has
  module _ {whose : Owner} {at : ℕ} (whose_is : whose ≡ owner) (at_is : at ≡ first) where
    pub adds_by : (old new : Counts) → Gains old new whose at set → AddsSet old new client collection strength set 64
    adds_by old new gains =
        adds_gained old new (subst (λ (n : ℕ). Gains old new owner n set) at_is (subst (λ (o : Owner). Gains old new o at set) whose_is gains))

    pub fewer_by : (old : Counts) → ((index : ℕ) → bit_at set index ≡ 1 →
        total old (record { collection = collection; index = index }) strength < old.limit) → HasRoomIn old whose at set
    fewer_by old fewer =
        subst (λ (n : ℕ). HasRoomIn old whose n set) (sym at_is)
        (subst (λ (o : Owner). HasRoomIn old o first set) (sym whose_is) (set_fewer old fewer))

    pub there_by : (n : ℕ) → is_in at set n ≡ true → n < 128
    there_by n is = set_there n (ap (λ m. is_in m set n) (sym at_is) ∙ is)

    -- an owner with room on each buffer has room on one of the page
    pub room_by : {P : Type 0} (old : Counts) → 0 < set → ((b : BufferName) (s : Strength) →
        same_part whose.part (part_of (kind_of b s)) ≡ true → has_handle_room old whose.client b s ≡ true → P)
        → ((index : ℕ) → bit_at set index ≡ 1 →
        has_handle_room old client (record { collection = collection; index = index }) strength ≡ true) → P
    room_by old some follows rooms =
        let found = some_bit some in
        let buffer : BufferName = record { collection = collection; index = found.0 } in
        follows buffer strength (ap (λ (o : Owner). same_part o.part (part_of (kind_of buffer strength))) whose_is ∙ found.2)
        (ap (λ (o : Owner). has_handle_room old o.client buffer strength) whose_is ∙ rooms found.0 found.1)

-- where no buffer is below the end of a set, nothing is added
pub adds_none : (client collection : ℕ) (strength : Strength) (set end : ℕ) (old new : Counts) → new ≡ old
    → ((b : BufferName) (s : Strength) → is_in_set_below collection strength set end b s ≡ false) →
    AddsSet old new client collection strength set end
adds_none client collection strength set end old new same none =
    subst (λ counts. AddsSet old counts client collection strength set end) (sym same) (record {
      limit = refl;
      places = refl;
      counts = λ c b s. rw (none b s) (none_more (client == c));
      parcels = λ b s. refl;
      totals = λ b s. rw (none b s) (omega arith);
      sent = refl;
      rooms = λ c b s. rw (none b s) (no_room (client == c));
    })
  where
    none_more : {n : ℕ} (who : Bool) → n ≡ n + one_if (who && false)
    none_more true = omega arith
    none_more false = omega arith

    no_room : {had : Bool} (who : Bool) → had ≡ ((who && false) || had)
    no_room true = refl
    no_room false = refl

-- an empty set has no buffer
pub empty_below : (collection : ℕ) (strength : Strength) (end : ℕ) (b : BufferName) (s : Strength) →
    is_in_set_below collection strength 0 end b s ≡ false
empty_below collection strength end b s =
    (λ i. collection == b.collection && (same_strength strength s && (bit_at-zero b.index i == 1 && nat_lt b.index end)))
    ∙ never (collection == b.collection) (same_strength strength s)
  where
    never : (x y : Bool) → (x && (y && false)) ≡ false
    never true true = refl
    never true false = refl
    never false y = refl
