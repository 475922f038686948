-- A list of nodes, none of which stands twice, is no longer than the table.
use Rattle.failure_domains.proofs.Common.{All, AllPairs, Bool, Contains, Contains-get_or, IsForest, IsSome, List, NodeKey, None, Option}
use Rattle.failure_domains.proofs.Common.{Table, [], ap, arith, children_at, cond, count_by, false, get_or, is_some, length, next_at}
use Rattle.failure_domains.proofs.Common.{refl, row-then, row_at, slice_index_or, subst, suc, sum_by-cons, sym, table_len, true, zero, ℕ}
use Rattle.failure_domains.proofs.Common.{◌+◌, ◌==◌, ◌∷◌, ◌≡◌, ◌≢◌, ◌≤◌}
use Rattle.std.proofs.lemmas.Bool.{eqb-true}
use Rattle.node_table.proofs.Depths.{there-above}

-- this many slots from this one on have something
abbrev full : {X : Type 0} → List (Option X) → ℕ
full slots = count_by is_some slots

-- the slots without this one
abbrev without : {X : Type 0} → List (Option X) → ℕ → List (Option X)
without [] slot = []
without (first ∷ rest) zero = None ∷ rest
without (first ∷ rest) (suc slot) = first ∷ without rest slot

-- one fewer has something
full-without : {X : Type 0} (slots : List (Option X)) (slot : ℕ) → IsSome (slice_index_or slots slot None) →
    full (without slots slot) + 1 ≡ full slots
full-without [] slot there = absurd (cc)
full-without (first ∷ rest) zero there =
    let a = sum_by-cons (λ (o : Option _). cond (is_some o) 1 0) None rest in
    let b = sum_by-cons (λ (o : Option _). cond (is_some o) 1 0) first rest in
    rw (a, b, there) (omega arith)
full-without (first ∷ rest) (suc slot) there =
    let on = full-without rest slot there in
    let a = sum_by-cons (λ (o : Option _). cond (is_some o) 1 0) first (without rest slot) in
    let b = sum_by-cons (λ (o : Option _). cond (is_some o) 1 0) first rest in
    rw (a, b) (omega arith)

-- the others have what they had
others : {X : Type 0} (slots : List (Option X)) (slot other : ℕ) → other ≢ slot →
    slice_index_or (without slots slot) other None ≡ slice_index_or slots other None
others [] slot other apart = refl
others (first ∷ rest) zero zero apart = absurd (apart refl)
others (first ∷ rest) zero (suc other) apart = refl
others (first ∷ rest) (suc slot) zero apart = refl
others (first ∷ rest) (suc slot) (suc other) apart = others rest slot other (λ same. apart (ap suc same))

-- things at slots that have something, of which no two are at one, are no more than there are
slots_fit : {X K : Type 0} (slot : K → ℕ) (wanted : List K) (slots : List (Option X)) → AllPairs (λ (a b : K). slot a ≢ slot b) wanted →
    All (λ (k : K). IsSome (slice_index_or slots (slot k) None)) wanted → length wanted ≤ full slots
slots_fit slot [] slots once there = omega arith
slots_fit slot (k ∷ rest) slots once there =
    let first : IsSome (slice_index_or slots (slot k) None) = there zero k (omega arith) in
    let on : length rest ≤ full (without slots (slot k)) =
    slots_fit slot rest (without slots (slot k))
    (λ i j d lt within. once (suc i) (suc j) d (omega arith) (omega arith))
    (λ i d within. subst IsSome
    (sym (others slots (slot k) (slot (get_or rest i d)) (λ same. once zero (suc i) d (omega arith) (omega arith) (sym same))))
    (there (suc i) d (omega arith))) in
    let fewer = full-without slots (slot k) first in
    omega arith

-- a test before a row holds
then-row : {X : Type 0} (b : Bool) (o : Option X) → IsSome (cond b o None) → b ≡ true
then-row true o some = refl
then-row false o some = absurd (cc)

module _ {N : Type 0} (t : Table N) where
  -- a slot gave one key last
  one_slot : (a b : NodeKey) → IsSome (row_at t a) → IsSome (row_at t b) → a.slot ≡ b.slot → a ≡ b
  one_slot a b here there same =
      let one = eqb-true (next_at t a.slot) (a.generation + 1)
      (then-row (next_at t a.slot == a.generation + 1) (slice_index_or t.rows a.slot None) here) in
      let two = eqb-true (next_at t b.slot) (b.generation + 1)
      (then-row (next_at t b.slot == b.generation + 1) (slice_index_or t.rows b.slot None) there) in
      let nexts : next_at t a.slot ≡ next_at t b.slot = ap (next_at t) same in
      let generation : a.generation ≡ b.generation = omega arith in
      λ i. record { slot = same i; generation = generation i }

  -- nodes of which none stands twice are no more than the table has
  pub keys_fit : (keys : List NodeKey) → AllPairs (λ (a b : NodeKey). a ≢ b) keys → All (λ key. IsSome (row_at t key)) keys →
      length keys ≤ table_len t
  keys_fit keys once there =
      slots_fit (λ (k : NodeKey). k.slot) keys t.rows
      (λ i j d lt within same. once i j d lt within
      (one_slot (get_or keys i d) (get_or keys j d) (there i d (omega arith)) (there j d within) same))
      (λ i d within. row-then (next_at t (get_or keys i d).slot == (get_or keys i d).generation + 1)
      (slice_index_or t.rows (get_or keys i d).slot None) (there i d within))

  -- children are there
  pub children_there : IsForest t → (key : NodeKey) (ks : List NodeKey) →
      ((child : NodeKey) → Contains ks child → Contains (children_at t key) child) → All (λ k. IsSome (row_at t k)) ks
  children_there forest key ks fewer i d within =
      let child : NodeKey = get_or ks i d in
      there-above (row_at t child) key ((forest.linked key child).1 (fewer child (Contains-get_or ks i d within)))
