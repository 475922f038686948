-- Births, effects, ends and pages that go back, under other names.
use Rattle.alike_cores.proofs.Common.{Bool, Change, Collection, CountsAlike, Effect, Handles, HeldBuffer, KeepsKeys, List, Node, NodeKey}
use Rattle.alike_cores.proofs.Common.{None, Option, Some, Strength, [], affected, ap, buffer_renamed, change_renamed, changed}
use Rattle.alike_cores.proofs.Common.{collection_renamed, cond, false, filter, given_back, held_renamed, is_home, is_home_in, is_unkept}
use Rattle.alike_cores.proofs.Common.{map, map-append, members_of, new_child, new_root, node_of, node_renamed, not, option_map}
use Rattle.alike_cores.proofs.Common.{option_map_or, refl, same_key, some_strong_live, sym, tidied, true, with_end, with_nodes, ℕ, ◌&&◌}
use Rattle.alike_cores.proofs.Common.{◌++◌, ◌+◌, ◌||◌, ◌∙◌, ◌∷◌, ◌≡◌}
use Rattle.forest_store.specs.declared.node.End.{End}
use Rattle.forest_store.specs.Nodes.{after_effect}
use Rattle.forest_store.specs.Settling.{with_birth}
use Rattle.alike_cores.proofs.Renamings.{loss-renamed, members-renamed, node_of-renamed}
use Rattle.alike_cores.proofs.Forcings.{filter_alike, strong-renamed}
use Rattle.alike_cores.proofs.Settlings.{map_alike}

-- By the effect: it is made on the node of the key, and writes no name.
affected-renamed : (to : NodeKey → NodeKey) (id : ℕ → ℕ) → KeepsKeys to → (key : NodeKey) (effect : Effect) (n : Node) →
    affected (to key) effect (node_renamed to id n) ≡ node_renamed to id (affected key effect n)
affected-renamed to id keeps key Effect.Bound n = λ i. record (node_renamed to id n) { bound = keeps key n.key i || n.bound }
affected-renamed to id keeps key Effect.Dispensable n =
    λ i. record (node_renamed to id n) { dispensable = keeps key n.key i || n.dispensable }
affected-renamed to id keeps key Effect.Weak n =
    λ i. record (node_renamed to id n) { weak = keeps key n.key i || n.weak; weak_ok = keeps key n.key i || n.weak_ok }
affected-renamed to id keeps key (Effect.WeakOk children) n =
    λ i. record (node_renamed to id n) { weak_ok = keeps key n.key i || n.weak_ok; covers = (children && keeps key n.key i) || n.covers }
affected-renamed to id keeps key (Effect.Constrained demand) n =
    λ i. record (node_renamed to id n) { constraints = cond (keeps key n.key i) (Some demand) n.constraints }
affected-renamed to id keeps key Effect.Taken n = λ i. record (node_renamed to id n) { took = keeps key n.key i || n.took }
affected-renamed to id keeps key Effect.Released n = λ i. record (node_renamed to id n) { released = keeps key n.key i || n.released }
affected-renamed to id keeps key Effect.Tracked n =
    λ i. record (node_renamed to id n) { trackers = cond (keeps key n.key i) (n.trackers + 1) n.trackers }

-- By the two kinds of child.
child-renamed : (to : NodeKey → NodeKey) (id : ℕ → ℕ) (attached : Bool) (key : NodeKey) (event client : ℕ) (n : Node) →
    new_child attached (to key) 0 client (node_renamed to id n) ≡ node_renamed to id (new_child attached key event client n)
child-renamed to id true key event client n = refl
child-renamed to id false key event client n = refl

-- one more node
added : (to : NodeKey → NodeKey) (id : ℕ → ℕ) (c : Collection) (new : Node) →
    record (collection_renamed to id c) { nodes = map (node_renamed to id) c.nodes ++ node_renamed to id new ∷ [] }
    ≡ collection_renamed to id (record c { nodes = c.nodes ++ new ∷ [] })
added to id c new = λ i. record (collection_renamed to id c) { nodes = sym (map-append (node_renamed to id) c.nodes (new ∷ [])) i }

-- By the parent: a root, or a child of the node that is found.
birth-renamed : (to : NodeKey → NodeKey) (id : ℕ → ℕ) → KeepsKeys to →
    (parent : Option NodeKey) (attached : Bool) (client event : ℕ) (key : NodeKey) (c : Collection) →
    with_birth (option_map to parent) attached client 0 (to key) (collection_renamed to id c)
    ≡ collection_renamed to id (with_birth parent attached client event key c)
birth-renamed to id keeps None attached client event key c = added to id c (new_root key c.id event client)
birth-renamed to id keeps (Some above) attached client event key c =
    ap (λ (o : Option Node). option_map_or
    (λ (n : Node). record (collection_renamed to id c)
    { nodes = map (node_renamed to id) c.nodes ++ new_child attached (to key) 0 client n ∷ [] }) o
    (collection_renamed to id c)) (node_of-renamed to id keeps c.nodes above)
    ∙ from (node_of c.nodes above)
  where
    -- by cases: the parent is not there, or the new child has the new names
    from : (o : Option Node) →
        option_map_or (λ (n : Node). record (collection_renamed to id c)
        { nodes = map (node_renamed to id) c.nodes ++ new_child attached (to key) 0 client n ∷ [] })
        (option_map (node_renamed to id) o) (collection_renamed to id c)
        ≡ collection_renamed to id
        (option_map_or (λ (n : Node). record c { nodes = c.nodes ++ new_child attached key event client n ∷ [] }) o c)
    from None = refl
    from (Some n) =
        (λ i. record (collection_renamed to id c)
        { nodes = map (node_renamed to id) c.nodes ++ child-renamed to id attached key event client n i ∷ [] })
        ∙ added to id c (new_child attached key event client n)

-- a change makes of the renamed collection what it makes of the collection, renamed
pub changed-renamed : (to : NodeKey → NodeKey) (id : ℕ → ℕ) → KeepsKeys to → (change : Change) (key : NodeKey) (c : Collection) →
    changed (change_renamed to change) (to key) (collection_renamed to id c) ≡ collection_renamed to id (changed change key c)
changed-renamed to id keeps (Change.Birth parent attached client event) key c = birth-renamed to id keeps parent attached client event key c
changed-renamed to id keeps (Change.Effect on effect) key c = λ i. record (collection_renamed to id c) {
  nodes = map_alike (affected (to on) effect) (affected on effect) (node_renamed to id) (affected-renamed to id keeps on effect) c.nodes i;
}
changed-renamed to id keeps (Change.Loss origin cause) key c =
    λ i. record (collection_renamed to id c) { nodes = loss-renamed to id keeps (record { cause = cause; origin = origin }) c.nodes i }
changed-renamed to id keeps Change.Nothing key c = refl

-- the same pages go back
pub given-renamed : (to : NodeKey → NodeKey) (id : ℕ → ℕ) → KeepsKeys to → (before after : Handles) →
    CountsAlike id before after → (c : Collection) →
    given_back after (collection_renamed to id c) ≡ collection_renamed to id (given_back before c)
given-renamed to id keeps before after alike c = λ i. record (collection_renamed to id c) {
  held = filter_alike (λ (h : HeldBuffer). not (is_home_in after (collection_renamed to id c) h.buffer))
      (λ (h : HeldBuffer). not (is_home_in before c h.buffer))
      (held_renamed id) home c.held i;
}
  where
    -- since a member keeps its flags under its new key
    strong : some_strong_live (members_of (map (node_renamed to id) c.nodes)) ≡ some_strong_live (members_of c.nodes)
    strong = ap some_strong_live (members-renamed to id keeps c.nodes) ∙ strong-renamed to (members_of c.nodes)

    -- since as many handles are open on the buffer, and a strong node is live or not as before
    home : (h : HeldBuffer) →
        not (is_home_in after (collection_renamed to id c) (buffer_renamed id h.buffer)) ≡ not (is_home_in before c h.buffer)
    home h = λ i. not (is_home (alike h.buffer Strength.Strong i) (alike h.buffer Strength.Weak i) (strong i))

-- an end is put at the same node
pub end_put-renamed : (to : NodeKey → NodeKey) (id : ℕ → ℕ) → KeepsKeys to → (key : NodeKey) (end : End) (c : Collection) →
    with_nodes (map (with_end (to key) end)) (collection_renamed to id c) ≡ collection_renamed to id (with_nodes (map (with_end key end)) c)
end_put-renamed to id keeps key end c = λ i. record (collection_renamed to id c) {
  nodes = map_alike (with_end (to key) end) (with_end key end) (node_renamed to id)
      (λ n i. record (node_renamed to id n) { end = cond (keeps key n.key i) end n.end }) c.nodes i;
}

-- and the same nodes are forgotten
pub tidied-renamed : (to : NodeKey → NodeKey) (id : ℕ → ℕ) (c : Collection) →
    tidied (collection_renamed to id c) ≡ collection_renamed to id (tidied c)
tidied-renamed to id c = λ i. record (collection_renamed to id c) {
  nodes = filter_alike (λ (n : Node). not (is_unkept n)) (λ (n : Node). not (is_unkept n)) (node_renamed to id) (λ n. refl) c.nodes i;
}
