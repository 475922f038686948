-- Lists of nodes, and what units ask for while some are allocated.
use Rattle.forest_steps.proofs.Common.{◌≡◌, refl, ap, Bool, true, false, ◌&&◌, List, [], ◌∷◌, map, list_any, list_all, NodeKey}
use Rattle.forest_steps.proofs.Common.{In, both_ways, In-any, Node, is_ready_node, given_all, IsSameNode, is_coming, AreClosed}
use Rattle.forest_steps.proofs.Common.{hangs_in_some, list_any-map, In-map, is_of, same_key, sym, ◌∙◌, option_map_or}

-- ---- lists

-- not this one, where none is
pub not_this : {A : Type 0} (p : A → Bool) (xs : List A) (x : A) → list_any p xs ≡ false → In x xs → p x ≡ true → ⊥
not_this p xs x none on is = both_ways _ (In-any p xs x on is) none

-- ---- units that were allocated

-- by induction: allocation does not change whether a node is ready
pub ready_same : (k : NodeKey) (heads : List NodeKey) (ns : List Node) →
    list_all (is_ready_node k) (map (given_all heads) ns) ≡ list_all (is_ready_node k) ns
ready_same k heads [] = refl
ready_same k heads (n ∷ ns) = ap (λ b. is_ready_node k n && b) (ready_same k _ ns)

-- ---- units that may come to their turn

-- each that may come to its turn by one of these is one of them still, where it might before: it hangs as it did
pub closed_mapped : (f : Node → Node) → ((n : Node) → IsSameNode (f n) n) → (nodes : List Node) (hs : List NodeKey) →
    ((n : Node) → In n nodes → is_coming (map f nodes) (f n) ≡ true → is_coming nodes n ≡ true) → AreClosed nodes hs →
    AreClosed (map f nodes) hs
closed_mapped f same nodes hs coming_was closed m there coming hangs =
    let x = In-map f _ m there in
    let unit : (p : NodeKey) → list_any (λ (q : Node). is_of p q && list_any (same_key q.head) hs) (map f nodes)
    ≡ list_any (λ (q : Node). is_of p q && list_any (same_key q.head) hs) nodes = λ p. list_any-map _ _ f nodes
    (λ q on. λ i. same_key ((same q).key i) p && list_any (same_key ((same q).head i)) hs) in
    ap (λ (n : Node). list_any (same_key n.key) hs) x.2 ∙ (ap (λ j. list_any (same_key j) hs) (same x.0).key
    ∙ closed x.0 x.1 (coming_was x.0 x.1 (ap (is_coming (map f nodes)) (sym x.2) ∙ coming))
    (sym (λ i. option_map_or (λ p. unit p i) ((same x.0).parent i) false) ∙ (ap (hangs_in_some (map f nodes) hs) (sym x.2) ∙ hangs)))
