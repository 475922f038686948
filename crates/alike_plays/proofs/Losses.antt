-- Whether the same became of the nodes that fell, found by what both lists have.
use Rattle.alike_plays.proofs.Common.{FellAlike, GoneNode, In, In-find, KeepsKeys, List, NodeKey, None, Some, ap, fall_renamed, false}
use Rattle.alike_plays.proofs.Common.{fault_fallen, find, inl, inr, none_or_some, option_map, same_key, same_key-refl, same_key-true}
use Rattle.alike_plays.proofs.Common.{subst, sym, true, ◌∙◌, ◌≡◌, ◌⊎◌}
use Rattle.sm_names.proofs.ListLaws.{In-any, none-find}

-- A node fell nowhere, where none with its key did.
fell_nowhere : (falls : List GoneNode) (key : NodeKey) → ((g : GoneNode) → In g falls → g.key ≡ key → ⊥) →
    fault_fallen falls key ≡ None
fell_nowhere falls key other = by (none_or_some (find (λ (f : GoneNode). same_key f.key key) falls))
  where
    -- by whether one did
    by : (find (λ (f : GoneNode). same_key f.key key) falls ≡ None)
        ⊎ ((g : GoneNode) × (find (λ (f : GoneNode). same_key f.key key) falls ≡ Some g)) → fault_fallen falls key ≡ None
    by (inl none) = ap (option_map (λ (f : GoneNode). f.fault)) none
    by (inr fell) =
        let at = In-find (λ (f : GoneNode). same_key f.key key) falls fell.0 fell.1 in
        absurd (other fell.0 at.0 (same_key-true fell.0.key key at.1))

-- By whether the node fell: each that fell did so in both, and no other fell in the second.
pub fell-alike : (to : NodeKey → NodeKey) → KeepsKeys to → (falls later : List GoneNode) →
    ((g : GoneNode) → In g falls → fault_fallen later (to g.key) ≡ option_map (fall_renamed to) (fault_fallen falls g.key)) →
    ((h : GoneNode) → In h later → (g : GoneNode) × In g falls × (to g.key ≡ h.key)) → FellAlike to falls later
fell-alike to keeps falls later there back key = by (none_or_some (find (λ (f : GoneNode). same_key f.key key) falls))
  where
    -- by whether it fell
    by : (find (λ (f : GoneNode). same_key f.key key) falls ≡ None)
        ⊎ ((g : GoneNode) × (find (λ (f : GoneNode). same_key f.key key) falls ≡ Some g)) →
        fault_fallen later (to key) ≡ option_map (fall_renamed to) (fault_fallen falls key)
    by (inl none) =
        fell_nowhere later (to key) (λ h on is.
        let g = back h on in
        let same : same_key g.0.key key ≡ true = sym (keeps g.0.key key) ∙ (ap (λ (k : NodeKey). same_key k (to key)) (g.2 ∙ is) ∙
        same_key-refl (to key)) in
        let no : true ≡ false = sym (In-any (λ (f : GoneNode). same_key f.key key) falls g.0 g.1 same)
        ∙ none-find (λ (f : GoneNode). same_key f.key key) falls none in cc)
        ∙ sym (ap (option_map (fall_renamed to)) (ap (option_map (λ (f : GoneNode). f.fault)) none))
    by (inr fell) =
        let at = In-find (λ (f : GoneNode). same_key f.key key) falls fell.0 fell.1 in
        subst (λ (k : NodeKey). fault_fallen later (to k) ≡ option_map (fall_renamed to) (fault_fallen falls k))
        (same_key-true fell.0.key key at.1) (there fell.0 at.0)
