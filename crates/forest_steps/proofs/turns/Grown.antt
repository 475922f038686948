-- Each node of a collection that is not gone stands behind its parent, and is of its unit unless it is attached.
use Rattle.forest_steps.proofs.Common.{ℕ, zero, suc, ◌<◌, ◌≡◌, refl, ap, sym, ◌∙◌, Bool, true, false, not, ◌||◌, is_none, List, [], ◌∷◌}
use Rattle.forest_steps.proofs.Common.{◌++◌, take, drop, reverse, Option, Some, None, inl, inr, arith, list_all, option_map_or, NodeKey}
use Rattle.forest_steps.proofs.Common.{same_key, In, and_left, and_right, Node, is_left_of, are_rooted, same_key-equal, In-reverse}
use Rattle.forest_steps.proofs.Common.{same_key-comm, Hangs, Roots, hangs_on, all-In, left_node, reverse-append, AreGrown, slice_get}
use Rattle.std.proofs.lemmas.List.{append_assoc}
use Rattle.forest_store.specs.Falls.{IsPlaced}
use Rattle.forest_store.specs.Units.{are_united, is_parent, shares_unit}
use Rattle.std.proofs.lemmas.Option.{same_Some}

-- what stands at a place parts the list
parted_at : {A : Type 0} (xs : List A) (at : ℕ) {x : A} → slice_get xs at ≡ Some x → xs ≡ take at xs ++ x ∷ drop (suc at) xs
parted_at [] at is = cc
parted_at (y ∷ xs) zero {x} is = let same : y ≡ x = same_Some y x is in ap (λ z. z ∷ xs) same
parted_at (y ∷ xs) (suc at) is = ap (λ rest. y ∷ rest) (parted_at xs at is)

-- where one of the first stands
front_place : (ns : List Node) (at : ℕ) (m : Node) → In m (take at ns) → (i : ℕ) × (slice_get ns i ≡ Some m) × (i < at)
front_place ns zero m on = absurd on
front_place [] (suc at) m on = absurd on
front_place (n ∷ ns) (suc at) m (inl is) = (zero, ap Some (sym is), omega arith)
front_place (n ∷ ns) (suc at) m (inr on) = let r = front_place ns at m on in let less = r.2 in (suc r.0, r.1, omega arith)

-- what holds of nodes behind others, the newest first
rooted_back : (front back : List Node) → are_rooted (front ++ back) ≡ true → are_rooted back ≡ true
rooted_back [] back h = h
rooted_back (n ∷ ns) back h = rooted_back ns _ (and_right _ _ h)

-- by induction over the nodes in front
united_back : (front back : List Node) → are_united (front ++ back) ≡ true → are_united back ≡ true
united_back [] back h = h
united_back (n ∷ ns) back h = united_back ns _ (and_right _ _ h)

-- the parent stands before the node, and shares its unit unless the node is attached
pub grown_by : (nodes : List Node) → are_rooted (reverse nodes) ≡ true → are_united (reverse nodes) ≡ true → AreGrown nodes
grown_by nodes rooted united at n there here = from n.parent refl
  where
    -- the nodes before this one
    older : List Node
    older = take at nodes

    -- the nodes behind it
    newer : List Node
    newer = drop (suc at) nodes

    -- by turning each of the three parts round
    turned : reverse nodes ≡ reverse newer ++ n ∷ reverse older
    turned = ap reverse (parted_at _ at there)
        ∙ (reverse-append older (n ∷ newer)
        ∙ (ap (λ ns. ns ++ reverse older) (reverse-append (n ∷ []) newer) ∙ append_assoc (reverse newer) (n ∷ []) (reverse older)))

    -- since all nodes hang on earlier ones
    hangs : hangs_on (reverse older) n ≡ true
    hangs = and_left _ _ (rooted_back (reverse newer) (n ∷ reverse older) (ap are_rooted (sym turned) ∙ rooted))

    -- since all nodes share units with earlier ones
    shares : list_all (shares_unit n) (reverse older) ≡ true
    shares = and_left _ _ (united_back (reverse newer) (n ∷ reverse older) (ap are_united (sym turned) ∙ united))

    -- by arithmetic of switches
    unit : (attached is : Bool) (head above : NodeKey) → is ≡ true → (attached || (not is || same_key above head)) ≡ true →
        (attached || same_key head above) ≡ true
    unit attached is head above h k = grind (arith, same_key-comm)

    -- by cases: a root, or a node with its parent among the earlier ones
    from : (o : Option NodeKey) → n.parent ≡ o → IsPlaced nodes n at
    from None none = Roots none
    from (Some p) up =
        let left : is_left_of (reverse older) p ≡ true = rw (here, up) at hangs in
        let x = left_node _ p left in
        let place = front_place _ at _ (In-reverse _ _ x.on) in
        let is : is_parent n x.node ≡ true = ap (λ o. option_map_or (λ k. same_key x.node.key k) o false) up
        ∙ (same_key-equal _ _ x.is) in
        let plain : (n.attached || (not (is_parent n x.node) || same_key x.node.head n.head)) ≡ true =
        ap (λ o. (is_none o || n.attached) || (not (is_parent n x.node) || same_key x.node.head n.head)) (sym up)
        ∙ all-In _ _ _ x.on shares in
        Hangs (record {
          place = place.0;
          above = x.node;
          first = place.2;
          found = place.1;
          parent = up ∙ ap Some (sym x.is);
          here = x.here;
          unit = unit n.attached (is_parent n x.node) n.head x.node.head is plain;
        })
