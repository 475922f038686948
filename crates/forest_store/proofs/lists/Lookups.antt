-- The nodes that a list of keys finds, by a look-up of one key.
use Rattle.forest_store.proofs.Common.{In, In-list_any, Table, node_at, nodes_with, ◌≡◌, Bool, true, false, ◌||◌, not, List}
use Rattle.forest_store.proofs.Common.{[], ◌∷◌, map, Option, Some, None, option_map, cond, if◌then◌else◌, refl, sym, ap, ◌∙◌}
use Rattle.forest_store.proofs.Common.{filter, list_any, cons_option, NodeKey, same_key, same_key-true, Node, is_of, node_of}
use Rattle.forest_store.proofs.Common.{filter_map, same_key-equal, same_key-apart, false-same_key, arith, common_steps}
use Rattle.forest_store.proofs.lists.Elements.{In-made-back}

-- a look-up of nodes by key
abbrev pub Look : Type 0
Look = NodeKey → Option Node

-- each node that is found knows its key
abbrev pub Knows : Look → Type 0
Knows look = (key : NodeKey) (n : Node) → look key ≡ Some n → n.key ≡ key

-- the test of keys takes them in either order
pub same_key-swap : (a b : NodeKey) → same_key a b ≡ same_key b a
same_key-swap a b = grind (arith, same_key-equal, same_key-true, same_key-apart, false-same_key)

-- nothing on either side
pub nothing : (b : Bool) → cond {A = Option Node} b None None ≡ None
nothing true = refl
nothing false = refl

-- the first key, which finds this
node_of-first : (look : Look) → Knows look → (key k : NodeKey) (ns : List Node) (there : Bool) (o : Option Node) → look k ≡ o →
    (same : Bool) → same_key key k ≡ same → node_of ns key ≡ cond there (look key) None →
    node_of (cons_option o ns) key ≡ cond (same || there) (look key) None
node_of-first look knows key k ns there o is b same on = grind (arith, common_steps, same_key-true, nothing, same_key-equal, same_key-swap)

-- a node is found among those of these keys exactly where its key is one of them
pub node_of-looked : (look : Look) → Knows look → (keys : List NodeKey) (key : NodeKey) →
    node_of (filter_map look keys) key ≡ (if list_any (same_key key) keys then look key else None)
node_of-looked look knows [] key = refl
node_of-looked look knows (k ∷ ks) key = grind (arith, node_of-looked look knows ks key, node_of-first)

-- what is found where each node is as f makes it
pub looked-map : (f : Node → Node) (look now : Look) → ((key : NodeKey) → now key ≡ option_map f (look key)) → (keys : List NodeKey) →
    filter_map now keys ≡ map f (filter_map look keys)
looked-map f look now each [] = refl
looked-map f look now each (k ∷ ks) = grind (arith, looked-map f look now each ks)

-- what is found where this key is found no more
pub looked-without : (key : NodeKey) (look now : Look) → Knows look → ((k : NodeKey) → now k ≡ (if same_key key k then None else look k)) →
    (keys : List NodeKey) → filter_map now keys ≡ filter (λ n. not (is_of key n)) (filter_map look keys)
looked-without key look now knows each [] = refl
looked-without key look now knows each (k ∷ ks) = grind (arith, looked-without key look now knows each ks)

-- keys that find nothing can be left out
pub looked-kept : (key : NodeKey) (now : Look) → now key ≡ None → (keys : List NodeKey) →
    filter_map now (filter (λ k. not (same_key key k)) keys) ≡ filter_map now keys
looked-kept key now none [] = refl
looked-kept key now none (k ∷ ks) = grind (arith, looked-kept key now none ks, same_key-true)

-- the node of a key is among those of the keys
pub in_nodes : (t : Table Node) (keys : List NodeKey) (k : NodeKey) (n : Node) → node_at t k ≡ Some n → list_any (same_key k) keys ≡ true →
    In n (nodes_with t keys)
in_nodes t keys k n is there =
    let x = In-list_any (same_key k) keys there in
    In-made-back (node_at t) keys x.0 n x.1 (ap (node_at t) (sym (same_key-true k x.0 x.2)) ∙ is)
