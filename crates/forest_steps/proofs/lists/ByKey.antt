-- A binary search of keys in order finds each key that is there.
use Rattle.forest_steps.proofs.Common.{◌≡◌, ℕ, suc, ◌<◌, inl, inr, refl, ap, sym, ◌∙◌, subst, List, [], ◌∷◌}
use Rattle.forest_steps.proofs.Common.{length, get_or, arith, list_any, NodeKey, same_key, In, In-list_any}
use Rattle.forest_steps.proofs.Common.{false_if, same_key-refl, same_key-true, In-any, Result, Ok, Err, In-get_or}
use Rattle.std.proofs.Common.{is_ok}
use Rattle.std.specs.List.Sorted.{IsBinarySearchResult, IsSearchInRange, IsSorted}
use Rattle.std.specs.Ordering.{nat_cmp, ordering_then}
use Rattle.std.specs.declared.cmp.Ordering.{Ordering}
use Rattle.std.specs.declared.cmp.Ordering.TheVariants.{Less, Equal, Greater}
use Rattle.std.specs.Cmp.{tied_itself, ranks}
use Rattle.std.proofs.lemmas.Bool.{cases_order}
use Rattle.std.proofs.lemmas.List.Sorted.{searchable_from_sorted}
use Rattle.sm_names.specs.contracts.keys.NodeKeyOrd.TheImpl.Laws.{total-law}
use Rattle.forest_store.specs.LossMarks.{key_order}

-- by cases on the first order
both_tie : (a b : Ordering) → ordering_then a b ≡ Equal → (a ≡ Equal) × (b ≡ Equal)
both_tie Equal b h = (refl, h)
both_tie Less b h = cc
both_tie Greater b h = cc

-- the order of numbers ties only equal ones
number_tied : (m n : ℕ) → nat_cmp m n ≡ Equal → m ≡ n
number_tied m n h = rw h at (ranks m n)

-- keys that tie are one
tied : (a b : NodeKey) → key_order a b ≡ Equal → a ≡ b
tied a b h = grind (arith, both_tie, number_tied)

-- the order is total
tied_self : (a : NodeKey) → key_order a a ≡ Equal
tied_self a = tied_itself total-law a

-- the place of what is in a list
pub place_of : {A : Type 0} (x : A) (xs : List A) → In x xs → (k : ℕ) × (k < length xs) × (get_or xs k x ≡ x)
place_of x [] on = absurd on
place_of x (y ∷ ys) (inl is) = (0, omega arith, sym is)
place_of x (y ∷ ys) (inr on) = let p = place_of x ys on in (suc p.0, omega (arith, p.1), p.2)

-- the two constructors differ
not_less : Less ≡ Equal → ⊥
not_less h = cc

-- the two constructors differ
not_greater : Greater ≡ Equal → ⊥
not_greater h = cc

-- a search answers a place exactly where an element ties, and keys that tie are one
pub found : (keys : List NodeKey) (key : NodeKey) (r : Result ℕ ℕ) → IsSorted key_order keys → IsSearchInRange r (length keys) →
    IsBinarySearchResult (λ y. key_order y key) keys r → list_any (same_key key) keys ≡ is_ok r
found keys key (Ok i) up within at =
    let is : get_or keys i key ≡ key = tied _ key (at key) in
    In-any _ _ _ (In-get_or _ i key within) (ap (same_key key) is ∙ same_key-refl key)
found keys key (Err i) up within at =
    let parted = at (searchable_from_sorted total-law (λ k. k) keys key up) in
    false_if _ (λ e.
    let x = In-list_any _ _ e in
    let there : In key keys = subst (λ k. In k keys) (sym (same_key-true key x.0 x.2)) x.1 in
    let p = place_of key _ there in
    let ties : key_order (get_or keys p.0 key) key ≡ Equal = ap (λ k. key_order k key) p.2 ∙ tied_self key in
    elim (cases_order p.0 i) [
      | inl same ↦ not_greater (sym (parted.1 p.0 key (omega arith) p.1) ∙ ties)
      | inr (inl low) ↦ not_less (sym (parted.0 p.0 key (omega arith) low) ∙ ties)
      | inr (inr high) ↦ not_greater (sym (parted.1 p.0 key (omega arith) p.1) ∙ ties)
    ])
