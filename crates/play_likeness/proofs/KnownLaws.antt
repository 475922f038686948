-- Where the tables of two actors are alike at all that is listed, they are alike.
use Rattle.play_likeness.proofs.Common.{Bool, BufferName, In-list_any, List, NodeKey, None, Option, ap, buffer_renamed, inl, inr}
use Rattle.play_likeness.proofs.Common.{list_any, same_key, subst, sym, true, ℕ, ◌∙◌, ◌≡◌}
use Rattle.std.proofs.Common.{◌==◌, false}
use Rattle.std.proofs.lemmas.Bool.{eqb-true, eq-eqb}
use Rattle.std.specs.Option.{option_map}
use Rattle.sm_names.specs.Sameness.{same_buffer}
use Rattle.sm_names.proofs.ListLaws.{In}
use Rattle.sm_names.proofs.SamenessLaws.{either_way, same_buffer-true, same_key-true}
use Rattle.alike_cores.specs.Alike.{KeepsIds}
use Rattle.alike_cores.specs.Renamed.{KeepsKeys}
use Rattle.play_likeness.proofs.Listed.{each-listed}
use Rattle.alike_cores.proofs.Finding.{one_key}

-- ---- labels

-- Two numbers that pass the test are one.
number-is : (a b : ℕ) → (a == b) ≡ true → a ≡ b
number-is a b same = eqb-true a b same

-- A label that neither lists stands for nothing in both.
pub labels-alike : {A B : Type 0} (f : A → B) (one : ℕ → Option A) (other : ℕ → Option B) (labels others : List ℕ) →
    ((label : ℕ) → list_any (λ l. label == l) labels ≡ false → one label ≡ None) →
    ((label : ℕ) → list_any (λ l. label == l) others ≡ false → other label ≡ None) →
    ((label : ℕ) → In label labels → other label ≡ option_map f (one label)) →
    ((label : ℕ) → In label others → other label ≡ option_map f (one label)) → (label : ℕ) → other label ≡ option_map f (one label)
labels-alike f one other labels others none none_too first second label =
    elim (either_way (list_any (λ l. label == l) labels)) [
      | inl listed ↦ each-listed (λ (l : ℕ). other l ≡ option_map f (one l)) (λ a b. a == b) number-is labels first label listed
      | inr not_one ↦ elim (either_way (list_any (λ l. label == l) others)) [
        | inl listed ↦ each-listed (λ (l : ℕ). other l ≡ option_map f (one l)) (λ a b. a == b) number-is others second label listed
        | inr not_other ↦ none_too label not_other ∙ sym (ap (option_map f) (none label not_one))
      ]
    ]

-- ---- names

-- What neither lists is in neither. What the second lists is the new name of something that the first lists.
named-alike : {A V : Type 0} (same : A → A → Bool) → ((a b : A) → same a b ≡ true → a ≡ b) → (to : A → A) →
    ((a b : A) → to a ≡ to b → a ≡ b) → (nothing : V) (one other : A → V) (keys others : List A) →
    ((a : A) → list_any (same a) keys ≡ false → one a ≡ nothing) → ((a : A) → list_any (same a) others ≡ false → other a ≡ nothing) →
    ((a : A) → In a keys → other (to a) ≡ one a) → ((new : A) → In new others → (a : A) × In a keys × (to a ≡ new)) →
    (a : A) → other (to a) ≡ one a
named-alike same is to apart nothing one other keys others none none_too first named a =
    elim (either_way (list_any (same (to a)) others)) [
      | inl listed ↦
          let new = In-list_any (same (to a)) others listed in
          let old = named new.0 new.1 in
          subst (λ x. other (to x) ≡ one x) (apart old.0 a (old.2 ∙ sym (is (to a) new.0 new.2))) (first old.0 old.1)
      | inr not_other ↦ elim (either_way (list_any (same a) keys)) [
        | inl listed ↦ each-listed (λ x. other (to x) ≡ one x) same is keys first a listed
        | inr not_one ↦ none_too (to a) not_other ∙ sym (none a not_one)
      ]
    ]

-- And of buffers.
buffer-apart : (id : ℕ → ℕ) → KeepsIds id → (a b : BufferName) → buffer_renamed id a ≡ buffer_renamed id b → a ≡ b
buffer-apart id keeps a b same = λ i. record {
  collection = eqb-true a.collection b.collection (sym (keeps a.collection b.collection)
      ∙ eq-eqb (id a.collection) (id b.collection) (ap (λ (n : BufferName). n.collection) same)) i;
  index = ap (λ (n : BufferName). n.index) same i;
}

-- So it is of nodes,
pub keys-alike : {V : Type 0} (to : NodeKey → NodeKey) → KeepsKeys to → (nothing : V) (one other : NodeKey →
    V) (keys others : List NodeKey) →
    ((key : NodeKey) → list_any (same_key key) keys ≡ false → one key ≡ nothing) →
    ((key : NodeKey) → list_any (same_key key) others ≡ false → other key ≡ nothing) →
    ((key : NodeKey) → In key keys → other (to key) ≡ one key) →
    ((new : NodeKey) → In new others → (key : NodeKey) × In key keys × (to key ≡ new)) → (key : NodeKey) → other (to key) ≡ one key
keys-alike to keeps = named-alike same_key same_key-true to (one_key to keeps)

-- and of buffers.
pub buffers-alike : {V : Type 0} (id : ℕ → ℕ) → KeepsIds id → (nothing : V) (one other : BufferName →
    V) (buffers others : List BufferName) →
    ((b : BufferName) → list_any (same_buffer b) buffers ≡ false → one b ≡ nothing) →
    ((b : BufferName) → list_any (same_buffer b) others ≡ false → other b ≡ nothing) →
    ((b : BufferName) → In b buffers → other (buffer_renamed id b) ≡ one b) →
    ((new : BufferName) → In new others → (b : BufferName) × In b buffers × (buffer_renamed id b ≡ new)) →
    (b : BufferName) → other (buffer_renamed id b) ≡ one b
buffers-alike id keeps = named-alike same_buffer same_buffer-true (buffer_renamed id) (buffer-apart id keeps)
