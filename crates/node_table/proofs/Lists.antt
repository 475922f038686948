-- Lists of keys in which none stands twice: one more at the end, and one less.
use Rattle.node_table.proofs.Common.{AllPairs, Contains, Contains-append_right, List, NodeKey, [], ap, arith, inl, inr, length, refl}
use Rattle.node_table.proofs.Common.{same_key, slice_index_or, subst, suc, sym, zero, ℕ, ◌++◌, ◌<◌, ◌∙◌, ◌∷◌, ◌≡◌, ◌≢◌, ◌⊎◌}
use Rattle.std.proofs.Common.{not, filter}
use Rattle.std.proofs.lemmas.List.{get_or_default}
use Rattle.std.proofs.lemmas.List.Elements.{Contains-append_left, Contains-append_cases}
use Rattle.std.proofs.lemmas.List.Kept.{AllPairs-filter}
use Rattle.node_table.proofs.Keys.{key_cases, same_key-equal, same_key-apart}

-- no key stands twice
abbrev pub AllDiffer : List NodeKey → Type 0
AllDiffer keys = AllPairs (λ (a b : NodeKey). a ≢ b) keys

-- the keys but this one
abbrev pub without : NodeKey → List NodeKey → List NodeKey
without key keys = filter (λ other. not (same_key key other)) keys

-- an empty list has no key
pub Contains-none : (key : NodeKey) → Contains [] key → ⊥
Contains-none key there = omega (arith, there.1)

-- the head is there
pub Contains-head : (key : NodeKey) (rest : List NodeKey) → Contains (key ∷ rest) key
Contains-head key rest = (zero, omega arith, refl)

-- what is in the rest is there
pub Contains-tail : (head key : NodeKey) (rest : List NodeKey) → Contains rest key → Contains (head ∷ rest) key
Contains-tail head key rest there = (suc there.0, omega (arith, there.1), there.2)

-- a key that is there is the head or in the rest
pub Contains-cons_cases : (head key : NodeKey) (rest : List NodeKey) → Contains (head ∷ rest) key → (head ≡ key) ⊎ Contains rest key
Contains-cons_cases head key rest there = by_index there.0 there.1 there.2
  where
    -- by cases on the place: it is the first or further on
    by_index : (at : ℕ) → at < suc (length rest) → slice_index_or (head ∷ rest) at key ≡ key → (head ≡ key) ⊎ Contains rest key
    by_index zero within found = inl found
    by_index (suc at) within found = inr (at, omega arith, found)

-- the last key is there, and all before it
pub Contains-last : (keys : List NodeKey) (key : NodeKey) → Contains (keys ++ key ∷ []) key
Contains-last keys key = Contains-append_right keys (key ∷ []) key (Contains-head key [])

-- what was there is there before a last key
pub Contains-before_last : (keys : List NodeKey) (last key : NodeKey) → Contains keys key → Contains (keys ++ last ∷ []) key
Contains-before_last keys last key there = Contains-append_left keys (last ∷ []) key there

-- a key other than the last stands before it
pub Contains-but_last : (keys : List NodeKey) (last key : NodeKey) → key ≢ last → Contains (keys ++ last ∷ []) key → Contains keys key
Contains-but_last keys last key differ there =
    elim (Contains-append_cases keys (last ∷ []) key there) [
      | inl before ↦ before
      | inr at_end ↦ elim (Contains-cons_cases last key [] at_end) [
        | inl same ↦ absurd (differ (sym same))
        | inr none ↦ absurd (omega (arith, none.1))
      ]
    ]

-- an empty list has no key twice
no_pair_in_none : AllDiffer []
no_pair_in_none i j d before within = absurd (omega arith)

-- a head that is not in the rest
AllDiffer-cons : (head : NodeKey) (rest : List NodeKey) → (Contains rest head → ⊥) → AllDiffer rest → AllDiffer (head ∷ rest)
AllDiffer-cons head rest off differ zero zero d before within = absurd (omega arith)
AllDiffer-cons head rest off differ zero (suc j) d before within =
    λ same. off (j, omega arith, get_or_default rest j head d (omega arith) ∙ sym same)
AllDiffer-cons head rest off differ (suc i) zero d before within = absurd (omega arith)
AllDiffer-cons head rest off differ (suc i) (suc j) d before within = differ i j d (omega arith) (omega arith)

-- the rest of a list in which no key stands twice
pub AllDiffer-tail : (head : NodeKey) (rest : List NodeKey) → AllDiffer (head ∷ rest) → AllDiffer rest
AllDiffer-tail head rest differ i j d before within = differ (suc i) (suc j) d (omega arith) (omega arith)

-- the head is none of the rest
pub head_differs : (head key : NodeKey) (rest : List NodeKey) → AllDiffer (head ∷ rest) → Contains rest key → head ≢ key
head_differs head key rest differ there same =
    absurd (differ 0 (suc there.0) key (omega arith) (omega (arith, there.1)) (same ∙ sym there.2))

-- a new key at the end
pub AllDiffer-push : (keys : List NodeKey) (key : NodeKey) → (Contains keys key → ⊥) → AllDiffer keys → AllDiffer (keys ++ key ∷ [])
AllDiffer-push [] key new differ = AllDiffer-cons key [] (λ there. absurd (omega (arith, there.1))) no_pair_in_none
AllDiffer-push (head ∷ rest) key new differ =
    AllDiffer-cons head (rest ++ key ∷ [])
    (λ there. elim (key_cases head key) [
      | inl same ↦ new (subst (λ k. Contains (head ∷ rest) k) same (Contains-head head rest))
      | inr other ↦ head_differs head head rest differ (Contains-but_last rest key head other there) refl
    ])
    (AllDiffer-push rest key (λ there. new (Contains-tail head key rest there)) (AllDiffer-tail head rest differ))

-- what is left has no key twice
pub AllDiffer-without : (key : NodeKey) (keys : List NodeKey) → AllDiffer keys → AllDiffer (without key keys)
AllDiffer-without key keys differ = AllPairs-filter (λ (a b : NodeKey). a ≢ b) (λ other. not (same_key key other)) keys differ

-- the key at the head falls out
pub without-same : (key head : NodeKey) (rest : List NodeKey) → key ≡ head → without key (head ∷ rest) ≡ without key rest
without-same key head rest same = rw (same_key-equal key head same) refl

-- another key at the head stays
pub without-other : (key head : NodeKey) (rest : List NodeKey) → key ≢ head → without key (head ∷ rest) ≡ head ∷ without key rest
without-other key head rest differ = rw (same_key-apart key head differ) refl

-- a key that is not there leaves all
pub without_stranger : (key : NodeKey) (keys : List NodeKey) → (Contains keys key → ⊥) → without key keys ≡ keys
without_stranger key [] off = refl
without_stranger key (head ∷ rest) off =
    without-other key head rest (λ same. off (subst (λ k. Contains (head ∷ rest) k) (sym same) (Contains-head head rest)))
    ∙ ap (λ keys. head ∷ keys) (without_stranger key rest (λ there. off (Contains-tail head key rest there)))

-- what is left is what was there, but for the key
pub Contains-without : (key other : NodeKey) (keys : List NodeKey) → Contains (without key keys) other → Contains keys other
Contains-without key other [] there = there
Contains-without key other (head ∷ rest) there =
    elim (key_cases key head) [
      | inl same ↦
          Contains-tail head other rest (Contains-without key other rest (subst (λ keys.
          Contains keys other) (without-same key head rest same) there))
      | inr differ ↦
          elim (Contains-cons_cases head other (without key rest) (subst (λ keys. Contains keys other) (without-other key head rest differ)
          there)) [
            | inl found ↦ subst (λ k. Contains (head ∷ rest) k) found (Contains-head head rest)
            | inr later ↦ Contains-tail head other rest (Contains-without key other rest later)
          ]
    ]

-- the key is not left
pub without_lacks : (key : NodeKey) (keys : List NodeKey) → Contains (without key keys) key → ⊥
without_lacks key [] there = absurd (omega (arith, there.1))
without_lacks key (head ∷ rest) there =
    elim (key_cases key head) [
      | inl same ↦ without_lacks key rest (subst (λ keys. Contains keys key) (without-same key head rest same) there)
      | inr differ ↦
          elim (Contains-cons_cases head key (without key rest) (subst (λ keys. Contains keys key) (without-other key head rest differ)
          there)) [
            | inl found ↦ differ (sym found)
            | inr later ↦ without_lacks key rest later
          ]
    ]

-- every other key is left
pub without_keeps : (key other : NodeKey) (keys : List NodeKey) → other ≢ key → Contains keys other → Contains (without key keys) other
without_keeps key other [] differ there = there
without_keeps key other (head ∷ rest) differ there =
    elim (key_cases key head) [
      | inl same ↦ elim (Contains-cons_cases head other rest there) [
        | inl found ↦ absurd (differ (sym found ∙ sym same))
        | inr later ↦ subst (λ keys. Contains keys other) (sym (without-same key head rest same)) (without_keeps key other rest differ
            later)
      ]
      | inr apart ↦
          subst (λ keys. Contains keys other) (sym (without-other key head rest apart)) (elim (Contains-cons_cases head other rest there) [
            | inl found ↦ subst (λ k. Contains (head ∷ without key rest) k) found (Contains-head head (without key rest))
            | inr later ↦ Contains-tail head other (without key rest) (without_keeps key other rest differ later)
          ])
    ]
