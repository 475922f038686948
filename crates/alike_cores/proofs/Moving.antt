-- Names of which two change places.
use Rattle.alike_cores.proofs.Common.{Bool, KeepsIds, KeepsKeys, NodeKey, None, Option, Some, ap, cond, either_way, eq-eqb, eqb-true}
use Rattle.alike_cores.proofs.Common.{false, false_if, inl, inr, refl, same_key, same_key-refl, same_key-true, some-injective, subst, sym}
use Rattle.alike_cores.proofs.Common.{true, ℕ, ◌==◌, ◌∙◌, ◌≡◌, ◌⊎◌}
use Rattle.sm_names.proofs.SamenessLaws.{both_tests}
use Rattle.alike_cores.proofs.Finding.{one_id, one_key}

-- ---- two change places

module _ {A : Type 0} (same : A → A → Bool) (is : (a b : A) → same a b ≡ true → a ≡ b) (own : (a : A) → same a a ≡ true) where
  -- the first is the second, and the second the first
  abbrev pub swap : A → A → A → A
  swap u v x = cond (same x u) v (cond (same x v) u x)

  -- By the test.
  pub swap-first : (u v : A) → swap u v u ≡ v
  swap-first u v = rw (own u) refl

  -- By both tests.
  pub swap-second : (u v x : A) → same x u ≡ false → x ≡ v → swap u v x ≡ u
  swap-second u v x other here = let second : same x v ≡ true = ap (same x) (sym here) ∙ own x in rw (other, second) refl

  -- By both tests.
  pub swap-other : (u v x : A) → same x u ≡ false → same x v ≡ false → swap u v x ≡ x
  swap-other u v x a b = rw (a, b) refl

  -- Twice is not at all, by the two tests.
  swap-twice : (u v x : A) → swap u v (swap u v x) ≡ x
  swap-twice u v x = by (either_way (same x u)) (either_way (same x v))
    where
      -- the second goes back
      back : (same v u ≡ true) ⊎ (same v u ≡ false) → swap u v v ≡ u
      back (inl e) = ap (swap u v) (is v u e) ∙ (swap-first u v ∙ is v u e)
      back (inr e) = swap-second u v v e refl

      -- by cases on what it is
      by : (same x u ≡ true) ⊎ (same x u ≡ false) → (same x v ≡ true) ⊎ (same x v ≡ false) → swap u v (swap u v x) ≡ x
      by (inl e) b =
          ap (λ (y : A). swap u v (swap u v y)) (is x u e)
          ∙ (ap (swap u v) (swap-first u v) ∙ (back (either_way (same v u)) ∙ sym (is x u e)))
      by (inr e) (inl f) = ap (swap u v) (swap-second u v x e (is x v f)) ∙ (swap-first u v ∙ sym (is x v f))
      by (inr e) (inr f) = ap (swap u v) (swap-other u v x e f) ∙ swap-other u v x e f

  -- So what becomes one was one.
  pub swap-one : (u v x y : A) → swap u v x ≡ swap u v y → x ≡ y
  swap-one u v x y e = sym (swap-twice u v x) ∙ (ap (swap u v) e ∙ swap-twice u v y)

-- ---- numbers

-- the names, with this one for that number
abbrev pub number_moved : (ℕ → ℕ) → ℕ → ℕ → ℕ → ℕ
number_moved id from into i = cond (id i == id from) into (cond (id i == into) (id from) (id i))

module _ (id : ℕ → ℕ) (kept : KeepsIds id) (from into : ℕ) where
  -- The number has the name.
  pub number_there : number_moved id from into from ≡ into
  number_there = swap-first (λ a b. a == b) (λ a b e. eqb-true a b e) (λ a. eq-eqb a a refl) (id from) into

  -- All others keep theirs, unless it was this one.
  pub number_same : (i : ℕ) → (i == from) ≡ false → (id i == into) ≡ false → number_moved id from into i ≡ id i
  number_same i other free =
      swap-other (λ a b. a == b) (λ a b e. eqb-true a b e) (λ a. eq-eqb a a refl) (id from) into (id i) (kept i from ∙ other) free

  -- The number that had it has that of the other.
  pub number_back : (i : ℕ) → (i == from) ≡ false → id i ≡ into → number_moved id from into i ≡ id from
  number_back i other had =
      swap-second (λ a b. a == b) (λ a b e. eqb-true a b e) (λ a. eq-eqb a a refl) (id from) into (id i) (kept i from ∙ other) had

  -- No two numbers become one.
  pub number_kept : KeepsIds (number_moved id from into)
  number_kept a b = both_tests (number_moved id from into a == number_moved id from into b) (a == b)
      (λ e. eq-eqb a b (one_id id kept a b (swap-one (λ x y. x == y) (λ x y f. eqb-true x y f) (λ x. eq-eqb x x refl) (id from) into (id a)
      (id b) (eqb-true (number_moved id from into a) (number_moved id from into b) e))))
      (λ e. eq-eqb (number_moved id from into a) (number_moved id from into b) (ap (number_moved id from into) (eqb-true a b e)))

-- ---- keys

-- the names, with this one for that key
abbrev pub key_moved : (NodeKey → NodeKey) → NodeKey → NodeKey → NodeKey → NodeKey
key_moved to from into k = cond (same_key (to k) (to from)) into (cond (same_key (to k) into) (to from) (to k))

-- the same, if there are both
abbrev pub keys_moved : (NodeKey → NodeKey) → Option NodeKey → Option NodeKey → NodeKey → NodeKey
keys_moved to (Some from) (Some into) key = key_moved to from into key
keys_moved to _ _ key = to key

module _ (to : NodeKey → NodeKey) (keeps : KeepsKeys to) where
  -- No two keys become one.
  key_kept : (from into : NodeKey) → KeepsKeys (key_moved to from into)
  key_kept from into a b = both_tests (same_key (key_moved to from into a) (key_moved to from into b)) (same_key a b)
      (λ e. subst (λ (k : NodeKey). same_key a k ≡ true) (one_key to keeps a b
      (swap-one same_key same_key-true same_key-refl (to from) into (to a) (to b)
      (same_key-true (key_moved to from into a) (key_moved to from into b) e))) (same_key-refl a))
      (λ e. subst (λ (k : NodeKey). same_key (key_moved to from into a) (key_moved to from into k) ≡ true) (same_key-true a b e)
      (same_key-refl (key_moved to from into a)))

  -- By whether there are both.
  pub keys_kept : (o p : Option NodeKey) → KeepsKeys (keys_moved to o p)
  keys_kept None None a b = keeps a b
  keys_kept None (Some into) a b = keeps a b
  keys_kept (Some from) None a b = keeps a b
  keys_kept (Some from) (Some into) a b = key_kept from into a b

  -- By whether there are both.
  pub keys_there : (o p : Option NodeKey) (from into : NodeKey) → o ≡ Some from → p ≡ Some into → keys_moved to o p from ≡ into
  keys_there None p from into a b = cc
  keys_there (Some x) None from into a b = cc
  keys_there (Some x) (Some y) from into a b =
      ap (key_moved to x y) (sym (some-injective x from a))
      ∙ (swap-first same_key same_key-true same_key-refl (to x) y ∙ some-injective y into b)

  -- All others keep theirs, unless it was this one.
  pub keys_same : (o p : Option NodeKey) (key : NodeKey) → (o ≡ Some key → ⊥) → (p ≡ Some (to key) → ⊥) → keys_moved to o p key ≡ to key
  keys_same None None key a b = refl
  keys_same None (Some into) key a b = refl
  keys_same (Some from) None key a b = refl
  keys_same (Some from) (Some into) key a b =
      swap-other same_key same_key-true same_key-refl (to from) into (to key)
      (keeps key from ∙ false_if (same_key key from) (λ e. absurd (a (ap Some (sym (same_key-true key from e))))))
      (false_if (same_key (to key) into) (λ e. absurd (b (ap Some (sym (same_key-true (to key) into e))))))

  -- The key that had it has that of the other.
  pub keys_back : (o p : Option NodeKey) (from into key : NodeKey) → o ≡ Some from → p ≡ Some into → same_key key from ≡ false →
      to key ≡ into → keys_moved to o p key ≡ to from
  keys_back None p from into key a b other had = cc
  keys_back (Some x) None from into key a b other had = cc
  keys_back (Some x) (Some y) from into key a b other had =
      let first : x ≡ from = some-injective x from a in
      swap-second same_key same_key-true same_key-refl (to x) y (to key)
      (keeps key x ∙ (ap (same_key key) first ∙ other)) (had ∙ sym (some-injective y into b))
      ∙ ap to first
