-- What reads of a sound table answer.
use Rattle.node_table.proofs.Common.{AllPairs, Bool, Contains, IsForest, IsSome, IsSound, List, NodeKey, None, Option, Slot, Some, Table}
use Rattle.node_table.proofs.Common.{[], ap, arith, children_at, children_in, false, nat_le, nat_lt, nat_tests, parent_at, parent_in}
use Rattle.node_table.proofs.Common.{refl, row_at, slice_index_or, subst, sym, table_of, true, was_given, with_vacant, ℕ, ◌&&◌, ◌+◌, ◌<◌}
use Rattle.node_table.proofs.Common.{◌==◌, ◌^◌, ◌≡◌, ◌≢◌, ◌≤◌}
use Rattle.node_table.specs.Table.{empty_table}
use Rattle.node_table.proofs.Depths.{parent-there, deeper, shallow, next-there, slot-there, none-then}

-- a number from the first on and below the next one was given
pub given-between : (first generation next : ℕ) → first ≤ generation → generation < next →
    (nat_le first generation && nat_lt generation next) ≡ true
given-between first generation next low high =
    let one : nat_le first generation ≡ true = grind (arith, nat_tests) in
    let two : nat_lt generation next ≡ true = grind (arith, nat_tests) in
    rw (one, two) refl

module _ {N : Type 0} (slots : List (Option (Slot N))) (nexts : List ℕ) (first count limit : ℕ) (sound : IsSound slots nexts first count
    limit) where
  -- a key that is there was given
  given-there : (key : NodeKey) → IsSome (row_at (table_of slots nexts first limit) key) →
      was_given (table_of slots nexts first limit) key ≡ true
  given-there key there =
      let next : slice_index_or nexts key.slot first ≡ key.generation + 1 = next-there (table_of slots nexts first limit) key there in
      let begun : first < slice_index_or nexts key.slot first =
      sound.begun key.slot (slot-there (table_of slots nexts first limit) key there) in
      given-between first key.generation (slice_index_or nexts key.slot first) (omega arith) (omega arith)

  -- each table is a forest
  pub forest : (vacant : ℕ) (t : Table N) → with_vacant vacant (table_of slots nexts first limit) ≡ t → IsForest t
  forest vacant t is =
      subst (λ (u : Table N). IsForest u) is
      (record {
        linked = sound.forest.linked;
        parent_there = parent-there (table_of slots nexts first limit) sound.forest;
        once = sound.forest.once;
        deeper = deeper (table_of slots nexts first limit) sound.forest;
        shallow = shallow (table_of slots nexts first limit) sound.forest;
        given = given-there;
      })

module _ (N : Type 0) (first limit : ℕ) where
  -- a table without slots has no node
  pub empty-row : (key : NodeKey) → row_at (empty_table {N = N} first limit) key ≡ None
  empty-row key = none-then (first == key.generation + 1) None refl

  -- and gave no key
  pub empty-given : (key : NodeKey) → was_given (empty_table {N = N} first limit) key ≡ false
  empty-given key = by_test (nat_le first key.generation) refl
    where
      by_test : (b : Bool) → nat_le first key.generation ≡ b → (nat_le first key.generation && nat_lt key.generation first) ≡ false
      by_test true test = let low : nat_lt key.generation first ≡ false = grind (arith, nat_tests) in rw (test, low) refl
      by_test false test = rw test refl

  -- no slot, no node and no link is sound
  pub sound-empty : first < 2 ^ 32 → IsSound {N = N} [] [] first 0 limit
  sound-empty fits =
      record {
        counted = refl;
        within = omega arith;
        vacant = λ slot none. fits;
        rising = λ slot. omega arith;
        narrow = λ slot. omega arith;
        begun = λ slot some. absurd (cc);
        stamped = λ slot generation is. absurd (cc);
        forest = record {
          linked = λ parent key. (λ above. absurd (no-parent parent key above), λ there. absurd (no-child parent key there));
          once = λ key. subst (λ keys. AllPairs (λ (a b : NodeKey). a ≢ b) keys) (sym (ap children_in (empty-row key)))
              (λ i j d before within. absurd (omega arith));
          rank = λ key. 0;
          ranked = λ parent key above. absurd (no-parent parent key above);
        };
        chained = λ slot. (refl, refl);
      }
    where
      no-parent : (parent key : NodeKey) → parent_at (empty_table {N = N} first limit) key ≡ Some parent → ⊥
      no-parent parent key above =
          let none : parent_at (empty_table {N = N} first limit) key ≡ None = ap parent_in (empty-row key) in absurd (cc)

      no-child : (parent key : NodeKey) → Contains (children_at (empty_table {N = N} first limit) parent) key → ⊥
      no-child parent key there =
          let none : Contains [] key = subst (λ keys. Contains keys key) (ap children_in (empty-row parent)) there in
          absurd (omega (arith, none.1))
