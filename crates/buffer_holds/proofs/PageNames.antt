-- Pages by the holds and kinds that they count.
use Rattle.buffer_holds.proofs.Common.{Bool, HandleKind, Hold, Owner, Part, Strength, Strong, Weak, and_parts, ap, arith, common_steps}
use Rattle.buffer_holds.proofs.Common.{eqb-false, eqb-true, false, hold_at, if◌then◌else◌, kind_at, le-ltb, lt-ltb, ltb-true, nat_lt}
use Rattle.buffer_holds.proofs.Common.{owner_of, part_of, refl, same_handle_kind, same_hold, same_owner, same_part, same_strength}
use Rattle.buffer_holds.proofs.Common.{same_strength-refl, slot_for, slot_of, true, ℕ, ◌%◌, ◌&&◌, ◌*◌, ◌+◌, ◌/◌, ◌<◌, ◌==◌, ◌∙◌, ◌≡◌}
use Rattle.std.proofs.lemmas.Bool.{ltb-false}
use Rattle.buffer_holds.specs.Pages.{strength_at}
use Rattle.buffer_holds.specs.contracts.names.PartPartialEq.TheImpl as part
use Rattle.buffer_holds.specs.contracts.names.OwnerPartialEq.TheImpl as owner

-- the derived test of parts
pub derived_part : (part.eq-value).it ≡ same_part
derived_part = refl

-- the derived test of owners
pub derived_owner : (owner.eq-value).it ≡ same_owner
derived_owner = λ i a b. a.client == b.client && derived_part i a.part b.part

-- parts that are the same are one
pub same_part-one : (a b : Part) → same_part a b ≡ true → a ≡ b
same_part-one a b e =
    let both = and_parts (a.collection == b.collection) (a.number == b.number) e in
    λ i. record {
      collection = eqb-true a.collection b.collection both.0 i;
      number = eqb-true a.number b.number both.1 i;
    }

-- owners that are the same are one
pub same_owner-one : (a b : Owner) → same_owner a b ≡ true → a ≡ b
same_owner-one a b e =
    let both = and_parts (a.client == b.client) (same_part a.part b.part) e in
    λ i. record { client = eqb-true a.client b.client both.0 i; part = same_part-one a.part b.part both.1 i }

-- a part is the same as itself
pub same_part-refl : (a : Part) → same_part a a ≡ true
same_part-refl a = grind (arith, common_steps)

-- an owner is the same as itself
pub same_owner-refl : (a : Owner) → same_owner a a ≡ true
same_owner-refl a = grind (arith, common_steps, same_part-refl a.part)

-- cells are the same if they are of one strength and of one place
same_cell : (m n j i : ℕ) → j < 128 → i < 128 →
    ((m * 64 + j % 64) == (n * 64 + i % 64)) && same_strength (strength_at j) (strength_at i) ≡ (m == n && (j == i))
same_cell m n j i small fits = by (m == n) refl (j == i) refl
  where
    differ : (a b : ℕ) → (a ≡ b → ⊥) → (a == b) ≡ false
    differ a b other = at (a == b) refl
      where
        at : (t : Bool) → (a == b) ≡ t → t ≡ false
        at true e = absurd (other (eqb-true a b e))
        at false e = refl

    none : (b : Bool) → (b && false) ≡ false
    none true = refl
    none false = refl

    -- cells of one strength are of one half of the page
    one_half : (t : Bool) → nat_lt j 64 ≡ t → nat_lt i 64 ≡ t → j / 64 ≡ i / 64
    one_half true l r =
        let first = ltb-true j 64 l in
        let second = ltb-true i 64 r in
        omega (arith, first, second)
    one_half false l r =
        let first = ltb-false j 64 l in
        let second = ltb-false i 64 r in
        omega (arith, first, second, small, fits)

    -- two cells of one strength have the same place only if they are one
    apart_in : (s t : Bool) → nat_lt j 64 ≡ s → nat_lt i 64 ≡ t → (m * 64 + j % 64 ≡ n * 64 + i % 64 → j / 64 ≡ i / 64 → ⊥) →
        ((m * 64 + j % 64) == (n * 64 + i % 64)) && same_strength (if s then Strong else Weak) (if t then Strong else Weak) ≡ false
    apart_in true true l r never = ap (λ b. b && true) (differ _ _ (λ e. never e (one_half true l r)))
    apart_in false false l r never = ap (λ b. b && true) (differ _ _ (λ e. never e (one_half false l r)))
    apart_in true false l r never = none ((m * 64 + j % 64) == (n * 64 + i % 64))
    apart_in false true l r never = none ((m * 64 + j % 64) == (n * 64 + i % 64))

    by : (a : Bool) → (m == n) ≡ a → (b : Bool) → (j == i) ≡ b →
        ((m * 64 + j % 64) == (n * 64 + i % 64)) && same_strength (strength_at j) (strength_at i) ≡ (a && b)
    by true same true here =
        let one : m ≡ n = eqb-true m n same in
        let other : j ≡ i = eqb-true j i here in
        grind (arith, common_steps, one, other, same_strength-refl (strength_at i))
    by true same false here =
        let one : m ≡ n = eqb-true m n same in
        let apart = eqb-false j i here in
        apart_in (nat_lt j 64) (nat_lt i 64) refl refl (λ e s. apart (omega (arith, e, one, s, small, fits)))
    by false same b here =
        let apart = eqb-false m n same in
        apart_in (nat_lt j 64) (nat_lt i 64) refl refl (λ e s. apart (omega (arith, e, small, fits)))

-- kinds are the same if their parts and cells are
pub kind_law : (q p : Part) (j i : ℕ) → j < 128 → i < 128 → same_handle_kind (kind_at q j) (kind_at p i) ≡ (same_part q p && (j == i))
kind_law q p j i small fits =
    turn (q.collection == p.collection) ((q.number * 64 + j % 64) == (p.number * 64 + i % 64))
    (same_strength (strength_at j) (strength_at i))
    ∙ ap (λ b. q.collection == p.collection && b) (same_cell q.number p.number j i small fits)
    ∙ back (q.collection == p.collection) (q.number == p.number) (j == i)
  where
    turn : (a b c : Bool) → ((a && b) && c) ≡ (a && (b && c))
    turn false b c = refl
    turn true b c = refl

    back : (a b c : Bool) → (a && (b && c)) ≡ ((a && b) && c)
    back false b c = refl
    back true b c = refl

-- and holds if their owners and cells are
pub hold_law : (q p : Owner) (j i : ℕ) → j < 128 → i < 128 → same_hold (hold_at q j) (hold_at p i) ≡ (same_owner q p && (j == i))
hold_law q p j i small fits =
    ap (λ b. q.client == p.client && b) (kind_law q.part p.part j i small fits)
    ∙ turn (q.client == p.client) (same_part q.part p.part) (j == i)
  where
    turn : (a b c : Bool) → (a && (b && c)) ≡ ((a && b) && c)
    turn false b c = refl
    turn true b c = refl

-- an index is its part and its place in this
index_whole : (n : ℕ) → (n / 64) * 64 + n % 64 ≡ n
index_whole n = omega arith

-- the place of a cell is that of its buffer
place_whole : (n : ℕ) (s : Strength) → slot_for (n % 64) s % 64 ≡ n % 64
place_whole n Strong = omega arith
place_whole n Weak = omega arith

-- the strength of a cell is that of its kind
strength_whole : (n : ℕ) (s : Strength) → strength_at (slot_for (n % 64) s) ≡ s
strength_whole n Strong = ap (λ b. if b then Strong else Weak) (lt-ltb (n % 64) 64 (omega arith))
strength_whole n Weak = ap (λ b. if b then Strong else Weak) (le-ltb (n % 64 + 64) 64 (omega arith))

-- a kind is counted in its part, at its cell
pub kind_whole : (k : HandleKind) → kind_at (part_of k) (slot_of k) ≡ k
kind_whole k = λ i. record {
  buffer = record {
    collection = k.buffer.collection;
    index = (ap (λ n. (k.buffer.index / 64) * 64 + n) (place_whole k.buffer.index k.strength) ∙ index_whole k.buffer.index) i;
  };
  strength = strength_whole k.buffer.index k.strength i;
}

-- and a hold with its owner
pub hold_whole : (h : Hold) → hold_at (owner_of h) (slot_of h.kind) ≡ h
hold_whole h = λ i. record { client = h.client; kind = kind_whole h.kind i }

-- each cell is one of the page
pub slot_within : (k : HandleKind) → slot_of k < 128
slot_within k = by k.strength
  where
    by : (s : Strength) → slot_for (k.buffer.index % 64) s < 128
    by Strong = omega arith
    by Weak = omega arith

-- the kind of a cell is counted in its part
pub part_law : (p : Part) (at : ℕ) → part_of (kind_at p at) ≡ p
part_law p at =
    let number : (p.number * 64 + at % 64) / 64 ≡ p.number = omega arith in
    λ i. record { collection = p.collection; number = number i }

-- and in the cell itself
pub slot_law : (p : Part) (at : ℕ) → at < 128 → slot_of (kind_at p at) ≡ at
slot_law p at small = by (nat_lt at 64) refl
  where
    by : (b : Bool) → nat_lt at 64 ≡ b → slot_for ((p.number * 64 + at % 64) % 64) (if b then Strong else Weak) ≡ at
    by true e = let less = ltb-true at 64 e in omega (arith, less)
    by false e = let past = ltb-false at 64 e in omega (arith, past, small)
