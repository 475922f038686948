-- What a failure takes of a table is of one collection, where parents are.
use Rattle.forest_steps.proofs.Common.{◌≡◌, ℕ, sym, ◌∙◌, true, List, Some, NodeKey, same_key-true, Table, node_at}
use Rattle.forest_steps.proofs.Common.{parent_at, Node, nodes_with, Contains-from_any, Up, IsForest, blocked_at, IsTaken}
use Rattle.forest_steps.proofs.Common.{all_of, is_blocking, arith, Reach, ◌==◌, refl, ap, Bool, ◌||◌, [], ◌∷◌, Option, None}
use Rattle.forest_steps.proofs.Common.{cons_option, list_any, option_map_or, same_key, and_both, or_right, same_key-refl}
use Rattle.sm_names.specs.Losses.{Down, Origin}
use Rattle.forest_steps.proofs.tables.Rows.{child_node}
use Rattle.forest_store.proofs.tables.Storing.{node_there}

-- the node with this key is of this collection, if there is one
abbrev own_at : Table Node → ℕ → NodeKey → Bool
own_at t id key = option_map_or (λ (n : Node). n.collection == id) (node_at t key) true

-- by induction over the keys
own_all : (t : Table Node) (id : ℕ) (keys : List NodeKey) →
    ((key : NodeKey) → list_any (same_key key) keys ≡ true → own_at t id key ≡ true) → all_of id (nodes_with t keys) ≡ true
own_all t id [] each = refl
own_all t id (k ∷ ks) each =
    by (own_all t id ks (λ key on. each key (or_right _ _ on))) (node_at t k)
    (each k (ap (λ b. b || list_any (same_key k) ks) (same_key-refl k)))
  where
    -- by cases: a key that finds no node adds none
    by : all_of id (nodes_with t ks) ≡ true → (o : Option Node) → option_map_or (λ (n : Node). n.collection == id) o true ≡ true →
        all_of id (cons_option o (nodes_with t ks)) ≡ true
    by rest None own = rest
    by rest (Some n) own = and_both _ _ own rest

module _ {t : Table Node} (forest : IsForest t)
    (kin : (key p : NodeKey) (n q : Node) → node_at t key ≡ Some n → parent_at t key ≡ Some p → node_at t p ≡ Some q →
    q.collection ≡ n.collection) (id : ℕ) where
  -- a node and its parent are of one collection
  own_kin : (key : NodeKey) {p : NodeKey} → parent_at t key ≡ Some p → own_at t id p ≡ own_at t id key
  own_kin key {p} up = grind (arith, child_node, node_there)

  module _ (origin : NodeKey) (own : own_at t id origin ≡ true) where
    -- so all that is reached from one of the collection is of it
    own_reached : {key : NodeKey} → Reach (parent_at t) (blocked_at is_blocking t) origin key → own_at t id key ≡ true
    own_reached Origin = own
    own_reached (Up child above r free up) = own_kin _ up ∙ own_reached r
    own_reached (Down above child r up) = sym (own_kin _ up) ∙ own_reached r

    -- each key that is taken is reached over parents, which are of one collection
    pub own_taken : {keys : List NodeKey} → IsTaken t origin keys → all_of id (nodes_with t keys) ≡ true
    own_taken taken = own_all t id _ (λ key on. own_reached ((taken.fall key).0 (Contains-from_any same_key-true key _ on)))
