-- Nodes that are unkept, but for those that are noted.
use Rattle.forest_store.proofs.Common.{arith, and_left, ◌≡◌, refl, ap, ◌∙◌, Bool, true, false, not, ◌&&◌, List, []}
use Rattle.forest_store.proofs.Common.{list_any, same_key, Node, NodeKey, unkept_except, is_unkept, and-false, AreMore}
use Rattle.forest_store.proofs.lists.Elements.{none_less}

-- a node that is not unkept is not, whichever are noted
pub not_unkept_but : (unkept : List NodeKey) (n : Node) → is_unkept n ≡ false → unkept_except unkept n ≡ false
not_unkept_but unkept n e = ap (λ (b : Bool). b && not (list_any (same_key n.key) unkept)) e

-- nor is one that is noted
pub noted_not : (unkept : List NodeKey) (n : Node) → list_any (same_key n.key) unkept ≡ true → unkept_except unkept n ≡ false
noted_not unkept n e = ap (λ (b : Bool). is_unkept n && not b) e ∙ and-false (is_unkept n)

-- one that is not unkept but for those that are noted is not unkept, if it is none of them
pub none_but : (unkept : List NodeKey) (n : Node) → unkept_except unkept n ≡ false →
    list_any (same_key n.key) unkept ≡ false → is_unkept n ≡ false
none_but unkept n none e = from _ _ none e
  where
    -- by arithmetic of switches
    from : (b c : Bool) → (b && not c) ≡ false → c ≡ false → b ≡ false
    from b c h e = grind arith

-- where none is unkept, none is but some
pub fewer_unkept : (unkept : List NodeKey) (ns : List Node) → list_any is_unkept ns ≡ false → list_any (unkept_except unkept) ns ≡ false
fewer_unkept unkept ns none = none_less _ is_unkept ns (λ n on h. and_left _ _ h) none

-- where none is but some, none is but more
pub more_noted : (few more : List NodeKey) → AreMore few more → (ns : List Node) → list_any (unkept_except few) ns ≡ false →
    list_any (unkept_except more) ns ≡ false
more_noted few more all ns none = grind (arith, none_less)

-- where none is noted, none is unkept
pub none_noted : (ns : List Node) → list_any (unkept_except []) ns ≡ false → list_any is_unkept ns ≡ false
none_noted ns none = none_less is_unkept (unkept_except []) ns (λ n on h. rw h refl) none
