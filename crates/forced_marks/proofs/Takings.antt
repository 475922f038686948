-- What a loss takes of the nodes of a collection.
use Rattle.forced_marks.proofs.Common.{Fault, In-any, In-find, List, Node, NodeKey, None, Option, Some, [], above_among, after_loss, ap}
use Rattle.forced_marks.proofs.Common.{blocks_here, false, is_below, is_of, is_some, is_some-find, is_taken, list_any, lost, map}
use Rattle.forced_marks.proofs.Common.{members_of, node_of, option_map_or, refl, reverse, same_key-true, sym, true, ◌∙◌, ◌∷◌, ◌≡◌}
use Rattle.sm_names.specs.Changes.{highest}
use Rattle.sm_names.specs.Losses.{top as topmost}
use Rattle.sm_names.specs.Members.{is_under}
use Rattle.sm_names.proofs.ListLaws.{In}
use Rattle.sm_names.proofs.SamenessLaws.{some_is}
use Rattle.forest_store.specs.Nodes.{member_of}
use Rattle.forest_steps.proofs.mid_event.Turns.{blocked_here}

-- the highest node that a failure of the node with this key reaches
abbrev pub highest_of : List Node → NodeKey → NodeKey
highest_of nodes key = topmost (λ k. list_any (blocks_here k) nodes) key (above_among (reverse nodes) key)

-- the first node with a key that some node has
pub found_in : (nodes : List Node) (key : NodeKey) (n : Node) → In n nodes → is_of key n ≡ true → (o : Node) × (node_of nodes key ≡ Some o)
found_in nodes key n there is = some_is (node_of nodes key) (is_some-find (is_of key) nodes ∙ In-any (is_of key) nodes n there is)

-- what a loss takes, where the node of its origin was found
pub taken_found : (nodes : List Node) (origin n : Node) (key : NodeKey) → node_of nodes key ≡ Some origin →
    is_taken nodes key n ≡ is_below nodes (highest_of nodes key) n.key
taken_found nodes origin n key found =
    let is : origin.key ≡ key = same_key-true origin.key key (In-find (is_of key) nodes origin found).1 in
    rw found (λ i. is_below nodes (topmost (λ k. blocked_here nodes k i) (is i) (above_among (reverse nodes) (is i)))
    n.key)

-- the nodes that a loss takes, where there is a node of its origin
pub lost_there : (nodes : List Node) (fault : Fault) → list_any (is_of fault.origin) nodes ≡ true →
    map (lost (λ n. is_below nodes (highest_of nodes fault.origin) n.key) fault) nodes ≡ after_loss fault nodes
lost_there nodes fault there = from (node_of nodes fault.origin) refl
  where
    -- by cases: the node of the origin is there
    from : (o : Option Node) → node_of nodes fault.origin ≡ o →
        map (lost (λ n. is_below nodes (highest_of nodes fault.origin) n.key) fault) nodes ≡ after_loss fault nodes
    from None e = let bad : is_some {T = Node} None ≡ true = sym (ap is_some e)
        ∙ (is_some-find (is_of fault.origin) nodes ∙ there) in cc
    from (Some origin) e = λ i. map (lost (λ n. sym (taken_found nodes origin n fault.origin e) i) fault) nodes

-- nobody is lost where none is taken
lost_none : (fault : Fault) (nodes : List Node) → map (lost (λ _. false) fault) nodes ≡ nodes
lost_none fault [] = refl
lost_none fault (n ∷ ns) = ap (λ (rest : List Node). n ∷ rest) (lost_none fault ns)

-- and where there is no such node
pub lost_nowhere : (nodes : List Node) (fault : Fault) → list_any (is_of fault.origin) nodes ≡ false →
    nodes ≡ after_loss fault nodes
lost_nowhere nodes fault none = from (node_of nodes fault.origin) refl
  where
    -- by cases: the node of the origin is not there
    from : (o : Option Node) → node_of nodes fault.origin ≡ o → nodes ≡ after_loss fault nodes
    from None e = sym (lost_none fault nodes)
        ∙ (λ i. map (lost (λ n. option_map_or
        (λ origin. is_under (highest (members_of nodes) (member_of nodes origin)) (member_of nodes n)) (sym e i)
        false) fault) nodes)
    from (Some origin) e = let bad : is_some (Some origin) ≡ false = sym (ap is_some e)
        ∙ (is_some-find (is_of fault.origin) nodes ∙ none) in cc
