-- Names that are moved for what is new agree with those from before on all that was known.
use Rattle.alike_plays.proofs.Common.{BufferName, KeepsIds, KeepsKeys, List, NamesAgree, NodeKey, None, Option, Some, [], ap, both_ways}
use Rattle.alike_plays.proofs.Common.{buffer_renamed, either_way, eqb-true, false, inl, inr, keys_moved, keys_same, number_moved}
use Rattle.alike_plays.proofs.Common.{number_there, refl, same_key, same_key-refl, same_key-true, some-injective, subst, sym, true, ℕ}
use Rattle.alike_plays.proofs.Common.{◌+◌, ◌==◌, ◌∙◌, ◌≡◌, ◌≤◌, ◌⊎◌}
use Rattle.std.proofs.Common.{arith}
use Rattle.sm_names.proofs.SamenessLaws.{false_if}
use Rattle.alike_cores.proofs.Moving.{keys_back, keys_there, number_back, number_same}

-- ---- keys

module _ (to : NodeKey → NodeKey) (keeps : KeepsKeys to) (o p : Option NodeKey) (Key Other : NodeKey → Type 0)
    (new : (key : NodeKey) → o ≡ Some key → Key key → ⊥) (new_too : (key : NodeKey) → p ≡ Some key → Other key → ⊥) where
  -- An old key keeps its name.
  old_keys : (key : NodeKey) → Key key → Other (to key) → keys_moved to o p key ≡ to key
  old_keys key here there = keys_same to keeps o p key (λ is. new key is here) (λ is. new_too (to key) is there)

  -- What was nothing for new keys is alike under the other names: of two that change places both stand for nothing.
  far : {X : Type 0} (before after : NodeKey → Option X) → ((key : NodeKey) → after (to key) ≡ before key) →
      ((key : NodeKey) → (Key key → ⊥) → before key ≡ None) → ((key : NodeKey) → (Other key → ⊥) → after key ≡ None) →
      (from into : NodeKey) → o ≡ Some from → p ≡ Some into → (key : NodeKey) → after (keys_moved to o p key) ≡ before key
  far before after same none none_there from into is is_too key = by (either_way (same_key key from)) (either_way (same_key (to key) into))
    where
      -- by which key it is: the new one, the one that has the name of the other new one, or any other
      by : (same_key key from ≡ true) ⊎ (same_key key from ≡ false) → (same_key (to key) into ≡ true) ⊎ (same_key (to key) into ≡ false) →
          after (keys_moved to o p key) ≡ before key
      by (inl e) more =
          let at : key ≡ from = same_key-true key from e in
          ap after (ap (keys_moved to o p) at ∙ keys_there to keeps o p from into is is_too)
          ∙ (none_there into (new_too into is_too) ∙ sym (none key (λ known. new from is (subst Key at known))))
      by (inr e) (inl f) =
          let at : to key ≡ into = same_key-true (to key) into f in
          ap after (keys_back to keeps o p from into key is is_too e at)
          ∙ (same from ∙ (none from (new from is)
          ∙ (sym (none_there (to key) (λ known. new_too into is_too (subst Other at known))) ∙ same key)))
      by (inr e) (inr f) =
          ap after (keys_same to keeps o p key
          (λ here. both_ways (same_key key from) (subst (λ (k : NodeKey). same_key key k ≡ true) (some-injective key from (sym here ∙ is))
          (same_key-refl key)) e)
          (λ there. both_ways (same_key (to key) into) (subst (λ (k : NodeKey). same_key (to key) k ≡ true)
          (some-injective (to key) into (sym there ∙ is_too)) (same_key-refl (to key))) f))
          ∙ same key

-- By whether there are both new keys.
pub far_keys : {X : Type 0} (to : NodeKey → NodeKey) → KeepsKeys to → (o p : Option NodeKey) (Key Other : NodeKey → Type 0) →
    ((key : NodeKey) → o ≡ Some key → Key key → ⊥) → ((key : NodeKey) → p ≡ Some key → Other key → ⊥) →
    (before after : NodeKey → Option X) → ((key : NodeKey) → after (to key) ≡ before key) →
    ((key : NodeKey) → (Key key → ⊥) → before key ≡ None) → ((key : NodeKey) → (Other key → ⊥) → after key ≡ None) →
    (key : NodeKey) → after (keys_moved to o p key) ≡ before key
far_keys to keeps None None Key Other new new_too before after same none none_there key = same key
far_keys to keeps None (Some into) Key Other new new_too before after same none none_there key = same key
far_keys to keeps (Some from) None Key Other new new_too before after same none none_there key = same key
far_keys to keeps (Some from) (Some into) Key Other new new_too before after same none none_there key =
    far to keeps (Some from) (Some into) Key Other new new_too before after same none none_there from into refl refl key

-- ---- numbers

-- A number up to one is not the next.
not_next : (n most : ℕ) → n ≤ most → (n == most + 1) ≡ false
not_next n most less = false_if (n == most + 1) (λ e. let same : n ≡ most + 1 = eqb-true n (most + 1) e in absurd (omega arith))

module _ (id : ℕ → ℕ) (kept : KeepsIds id) (m n : ℕ) where
  -- The numbers of events keep their names.
  old_ids : (i : ℕ) → i ≤ m → id i ≤ n → number_moved id (m + 1) (n + 1) i ≡ id i
  old_ids i old new = number_same id kept (m + 1) (n + 1) i (not_next i m old) (not_next (id i) n new)

  -- What was nothing for numbers still to come is alike under the other names.
  far_ids : (before after : BufferName → List ℕ) → ((b : BufferName) → after (buffer_renamed id b) ≡ before b) →
      ((b : BufferName) → (b.collection ≤ m → ⊥) → before b ≡ []) → ((b : BufferName) → (b.collection ≤ n → ⊥) → after b ≡ []) →
      (b : BufferName) → after (buffer_renamed (number_moved id (m + 1) (n + 1)) b) ≡ before b
  far_ids before after same none none_there b = by (either_way (b.collection == m + 1)) (either_way (id b.collection == n + 1))
    where
      -- the buffer, of another collection
      of_collection : ℕ → BufferName
      of_collection i = record b { collection = i }

      -- the next number is none that was
      above : (k i : ℕ) → i ≡ k + 1 → i ≤ k → ⊥
      above k i is less = omega arith

      -- by which number it is: the next of the first, what becomes the next of the second, or any other
      by : (b.collection == m + 1 ≡ true) ⊎ (b.collection == m + 1 ≡ false) →
          (id b.collection == n + 1 ≡ true) ⊎ (id b.collection == n + 1 ≡ false) →
          after (buffer_renamed (number_moved id (m + 1) (n + 1)) b) ≡ before b
      by (inl e) more =
          let is : b.collection ≡ m + 1 = eqb-true b.collection (m + 1) e in
          ap (λ (i : ℕ). after (of_collection i)) (ap (number_moved id (m + 1) (n + 1)) is ∙ number_there id kept (m + 1) (n + 1))
          ∙ (none_there (of_collection (n + 1)) (above n (n + 1) refl) ∙ sym (none b (above m b.collection is)))
      by (inr e) (inl f) =
          let is : id b.collection ≡ n + 1 = eqb-true (id b.collection) (n + 1) f in
          ap (λ (i : ℕ). after (of_collection i)) (number_back id kept (m + 1) (n + 1) b.collection e is)
          ∙ (same (of_collection (m + 1)) ∙ (none (of_collection (m + 1)) (above m (m + 1) refl)
          ∙ (sym (none_there (buffer_renamed id b) (above n (id b.collection) is)) ∙ same b)))
      by (inr e) (inr f) =
          ap (λ (i : ℕ). after (of_collection i)) (number_same id kept (m + 1) (n + 1) b.collection e f) ∙ same b

-- ---- both

-- The names agree.
pub names_agree : (to : NodeKey → NodeKey) (id number : ℕ → ℕ) → KeepsKeys to → KeepsIds id → KeepsIds number →
    (o p : Option NodeKey) (m n : ℕ) (Key Other : NodeKey → Type 0) → ((key : NodeKey) → o ≡ Some key → Key key → ⊥) →
    ((key : NodeKey) → p ≡ Some key → Other key → ⊥) →
    NamesAgree to (keys_moved to o p) id (number_moved id (m + 1) (n + 1)) number (number_moved number (m + 1) (n + 1)) Key Other
    (λ i. i ≤ m) (λ i. i ≤ n) (λ i. i ≤ m) (λ i. i ≤ n)
names_agree to id number keeps kept counted o p m n Key Other new new_too = record {
  keys = old_keys to keeps o p Key Other new new_too;
  ids = old_ids id kept m n;
  numbers = old_ids number counted m n;
  far_keys = far_keys to keeps o p Key Other new new_too;
  far_ids = far_ids id kept m n;
}
