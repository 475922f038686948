-- What takes the root takes all that is left of a collection, and nothing is forced in one that is gone.
use Rattle.forest_steps.proofs.Common.{◌≡◌, refl, ap, sym, ◌∙◌, Bool, true, false, inl, inr, List, [], ◌∷◌, drop, Option, Some, None}
use Rattle.forest_steps.proofs.Common.{is_some, find, list_all, list_any, option_map_or, NodeKey, Buffers, In, and_left, and_right}
use Rattle.forest_steps.proofs.Common.{both_ways, Node, strong_count, is_left_of, are_rooted, decided, hangs_on, all-In, still_decided}
use Rattle.forest_steps.proofs.Common.{left_node, arith, all_on, or_right, same_key, is_held, is_next_except, waits_among, are_held_except}
use Rattle.forest_store.proofs.failures.GoneNodes.{strong_gone}

-- ---- nodes that are all gone

-- each of these is gone
abbrev pub AreGone : List Node → Type 0
AreGone ns = (n : Node) → In n ns → n.gone ≡ true

-- none of them passes a test that no node passes that is gone
pub none_found : (test : Node → Bool) → ((n : Node) → n.gone ≡ true → test n ≡ false) → (ns : List Node) → AreGone ns → find test ns ≡ None
none_found test fails [] gone = refl
none_found test fails (n ∷ ns) gone =
    rw (fails n (gone n (inl refl))) (none_found _ fails ns (λ m on. gone m (inr on)))

-- by induction: each node is gone, and fails
pub none_passes : (test : Node → Bool) → ((n : Node) → n.gone ≡ true → test n ≡ false) → (ns : List Node) → AreGone ns →
    list_any test ns ≡ false
none_passes test fails [] gone = refl
none_passes test fails (n ∷ ns) gone =
    rw (fails n (gone n (inl refl))) (none_passes _ fails ns (λ m on. gone m (inr on)))

-- by induction: a gone node is not strong
pub none_strong : (ns : List Node) → AreGone ns → strong_count ns ≡ 0
none_strong [] gone = refl
none_strong (n ∷ ns) gone = rw (strong_gone n (gone n (inl refl))) (none_strong ns (λ m on. gone m (inr on)))

-- no step is decided
pub none_decides : (ns : List Node) (buffers : Option Buffers) (strong_open : Bool) → AreGone ns → decided ns buffers strong_open ≡ None
none_decides ns buffers strong_open gone = grind (arith, none_found, still_decided)

-- a gone head counts as held
pub held_gone : (unheld : List NodeKey) (ns : List Node) → AreGone ns → are_held_except unheld ns ≡ true
held_gone unheld ns gone = all_on _ ns (λ n on.
    or_right (list_any (same_key n.key) unheld) (is_held ns n) (rw (gone n on) refl))

-- a gone head is not next
pub next_gone : (pending : List NodeKey) (ns : List Node) → AreGone ns → list_any (is_next_except pending ns) ns ≡ false
next_gone pending ns gone = grind (arith, none_passes)

-- no root is left
pub root_gone : (pending : List NodeKey) (ns : List Node) → AreGone ns → waits_among pending ns ≡ true
root_gone pending ns gone = grind (arith, none_found)

-- ---- what a failure of the root takes

-- only one node is a root
pub one_root : (ns : List Node) → list_all (λ (n : Node). is_some n.parent) (drop 1 ns) ≡ true → (a b : Node) → In a ns → In b ns →
    a.parent ≡ None → b.parent ≡ None → a ≡ b
one_root [] all a b on too first second = absurd on
one_root (n ∷ ns) all a b (inl is) (inl too) first second = is ∙ sym too
one_root (n ∷ ns) all a b (inl is) (inr too) first second = both_ways _ (all-In _ ns b too all) (ap is_some second)
one_root (n ∷ ns) all a b (inr on) too first second = both_ways _ (all-In _ ns a on all) (ap is_some first)

-- what holds of the roots, and of each node that hangs on one of which it holds, holds of all that are left
pub all_hang : (P : Node → Type 0) (nodes : List Node) → ((n : Node) → In n nodes → n.gone ≡ false → n.parent ≡ None → P n) →
    ((p n : Node) → In n nodes → n.gone ≡ false → n.parent ≡ Some p.key → P p → P n) →
    (ns : List Node) → ((n : Node) → In n ns → In n nodes) → are_rooted ns ≡ true → (n : Node) → In n ns → n.gone ≡ false → P n
all_hang P nodes root below [] assert_disjoint rooted n on here = absurd on
all_hang P nodes root below (m ∷ older) assert_disjoint rooted n on here =
    by (all_hang P nodes root below older (λ x there. assert_disjoint x (inr there)) (and_right _ _ rooted)) on
  where
    -- by cases: a root, or a node that hangs on one of which it holds
    from : ((x : Node) → In x older → x.gone ≡ false → P x) → (o : Option NodeKey) → n.parent ≡ o →
        option_map_or (is_left_of older) o true ≡ true → P n
    from rest None up stays = root n (assert_disjoint n on) here up
    from rest (Some p) up stays =
        let x = left_node older p stays in
        below x.node n (assert_disjoint n on) here (up ∙ ap Some (sym x.is)) (rest x.node x.on x.here)

    -- by cases: it is the newest, which hangs on an older one, or one of the older ones
    by : ((x : Node) → In x older → x.gone ≡ false → P x) → In n (m ∷ older) → P n
    by rest (inl is) =
        let first : hangs_on older n ≡ true = rw is (and_left _ _ rooted) in
        from rest n.parent refl (rw here at first)
    by rest (inr there) = rest n there here
