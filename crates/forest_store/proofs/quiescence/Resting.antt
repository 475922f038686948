-- A collection that rests: nothing is forced in it, and no buffer's pages are given back.
use Rattle.forest_store.proofs.Common.{arith, ◌≡◌, ℕ, ◌==◌, ◌⊎◌, Bool, true, false, ◌&&◌, not, inl, inr, List, [], ◌∷◌, drop, Option, Some}
use Rattle.forest_store.proofs.Common.{None, option_map, is_none, is_some, refl, ap, ◌∙◌, cons_option, find, list_all, option_map_or}
use Rattle.forest_store.proofs.Common.{option_and_then, NodeKey, Buffers, Cause, when, and_left, and_right, either_way, Table, node_at}
use Rattle.forest_store.proofs.Common.{Node, has_strong, CollectionRow, is_filed, nodes_with, is_root_left, Handles, In, Loses, decided}
use Rattle.forest_store.specs.Dropped.{has_given_root}
use Rattle.forest_store.specs.Resting.{is_kept_by}
use Rattle.forest_store.proofs.quiescence.Calming.{AreNone, none_decided}

-- ---- what is forced

-- where all have parents, none is a root
no_root : (ns : List Node) → list_all (λ (n : Node). is_some n.parent) ns ≡ true → find is_root_left ns ≡ None
no_root [] all = refl
no_root (n ∷ ns) all = rw (from _ (and_left _ _ all)) (no_root ns (and_right _ _ all))
  where
    -- by cases: a node with a parent is no root
    from : (o : Option NodeKey) → is_some o ≡ true → (is_none o && not n.gone) ≡ false
    from None there = cc
    from (Some key) there = refl

-- only the first node may be a root
pub root_first : (t : Table Node) (id : ℕ) (keys : List NodeKey) → list_all (is_filed t id) keys ≡ true →
    list_all (λ (n : Node). is_some n.parent) (drop 1 (nodes_with t keys)) ≡ true → has_given_root t keys ≡ false →
    option_map_or (λ (root : Node). root.allocated) (find is_root_left (nodes_with t keys)) false ≡ false
root_first t id [] filed one none = refl
root_first t id (k ∷ ks) filed one none = from (node_at t k) (and_left _ _ filed) one none
  where
    -- by cases: the first node is the root or has a parent, as all behind it have
    from : (o : Option Node) → option_map_or (λ (n : Node). n.collection == id) o false ≡ true →
        list_all (λ (n : Node). is_some n.parent) (drop 1 (cons_option o (nodes_with t ks))) ≡ true →
        option_map_or (λ (n : Node). is_root_left n && n.allocated) o false ≡ false →
        option_map_or (λ (root : Node). root.allocated) (find is_root_left (cons_option o (nodes_with t ks))) false ≡ false
    from None filed one none = cc
    from (Some n) filed one none = elim (either_way (is_root_left n)) [
      | inl e ↦ let waits : n.allocated ≡ false = rw e at none in rw e waits
      | inr e ↦
          rw e (ap (λ (o : Option Node). option_map_or (λ (root : Node). root.allocated) o false) (no_root (nodes_with t ks) one))
    ]

-- a root without buffers is not abandoned, nor is one of whose buffers a strong handle is open
kept_root : (strong strong_open : Bool) (o : Option Node) →
    (option_map_or (λ (root : Node). root.allocated) o false && not strong_open) ≡ false →
    option_and_then (λ (root : Node). when (root.allocated && (not strong && not strong_open)) (Loses root.key Cause.NoStrong)) o ≡ None
kept_root strong strong_open o none = grind arith

-- so nothing is forced in a calm collection, where the root is not abandoned
pub still_decided : (nodes : List Node) (buffers : Option Buffers) (strong_open : Bool) → AreNone nodes buffers →
    (has_strong nodes ≡ true)
    ⊎ ((option_map_or (λ (root : Node). root.allocated) (find is_root_left nodes) false && not strong_open) ≡ false) →
    decided nodes buffers strong_open ≡ None
still_decided nodes buffers strong_open none some = grind (arith, none_decided, kept_root)

-- ---- what becomes of it

-- a root has no buffers then, where its node becomes one that has them only if it had
pub roots_stay : (t now : Table Node) (f : Node → Node) → ((key : NodeKey) → node_at now key ≡ option_map f (node_at t key)) →
    (keys : List NodeKey) → ((n : Node) → In n (nodes_with t keys) → (is_root_left n && n.allocated) ≡ false →
    (is_root_left (f n) && (f n).allocated) ≡ false) → has_given_root t keys ≡ false → has_given_root now keys ≡ false
roots_stay t now f look [] stays none = refl
roots_stay t now f look (k ∷ ks) stays none =
    ap (λ (o : Option Node). option_map_or (λ (n : Node). is_root_left n && n.allocated) o false) (look k)
    ∙ from _ stays none
  where
    -- by cases on the node: the function gives buffers to no root
    from : (o : Option Node) → ((n : Node) → In n (cons_option o (nodes_with t ks)) → (is_root_left n && n.allocated) ≡ false →
        (is_root_left (f n) && (f n).allocated) ≡ false) → option_map_or (λ (n : Node). is_root_left n && n.allocated) o false ≡ false →
        option_map_or (λ (n : Node). is_root_left n && n.allocated) (option_map f o) false ≡ false
    from None stays none = refl
    from (Some n) stays none = stays n (inl refl) none

-- if no root gets buffers, it rests as before
pub rests_on : (handles : Handles) (t now : Table Node) (s : CollectionRow) (lives : ℕ) →
    (has_given_root t s.keys ≡ false → has_given_root now s.keys ≡ false) → is_kept_by handles t s lives ≡ true →
    is_kept_by handles now s lives ≡ true
rests_on handles t now s lives roots kept = grind arith
