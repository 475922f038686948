-- What an event that bears no node makes of the nodes of a collection.
use Rattle.core_state.proofs.Common.{Bound, Call, Called, Effect, EndPlace, Grows, IsAnswer, Mark, Node, NodeKey, None, Option, Reply}
use Rattle.core_state.proofs.Common.{Some, Timeline, [], ap, birth_at, births_in, end_by, events, false, key_of, map, node_after}
use Rattle.core_state.proofs.Common.{nodes_after, place_of, readings, refl, same_key, ℕ, ◌+◌, ◌∙◌, ◌∷◌, ◌≡◌}
use Rattle.forest_store.proofs.changes.Effecting.{alone_affected}
use Rattle.core_state.proofs.nodes.Called.{answered, said, node_called}
use Rattle.core_state.proofs.ends.NotRead.{placed_node}
use Rattle.core_state.proofs.lists.Maps.{map-map_In}
use Rattle.core_state.proofs.nodes.Newborn.{births-none}

-- a mark that bears no node bears none at any event
pub no_birth : (here there : ℕ) (mark : Mark) → birth_at here mark ≡ None → birth_at there mark ≡ None
no_birth here there (Called client (Reply.Token key collection) Call.OpenRoot) h = cc
no_birth here there (Called client (Reply.Token key collection) (Call.Duplicate parent)) h = cc
no_birth here there (Called client (Reply.Token key collection) (Call.AttachToken parent)) h = cc
no_birth here there _ h = refl

-- ---- a node that the call does not name

-- what the call sets is not set there, whatever the answer
pub said_other : (reply : Reply) (call : Call) (n : Node) → ((key : NodeKey) → key_of call ≡ Some key → same_key key n.key ≡ false) →
    said call reply n ≡ n
said_other Reply.Done (Call.Bind key) n other = alone_affected key Effect.Bound n (other key refl)
said_other Reply.Done (Call.SetDispensable key) n other = alone_affected key Effect.Dispensable n (other key refl)
said_other Reply.Done (Call.SetWeak key) n other = alone_affected key Effect.Weak n (other key refl)
said_other Reply.Done (Call.SetWeakOk key children) n other = alone_affected key (Effect.WeakOk children) n (other key refl)
said_other Reply.Done (Call.SetConstraints key demand) n other = alone_affected key (Effect.Constrained demand) n (other key refl)
said_other Reply.Done (Call.Release key) n other = alone_affected key Effect.Released n (other key refl)
said_other Reply.Done call n other = refl
said_other (Reply.Taken collection strength set) (Call.Take key) n other = alone_affected key Effect.Taken n (other key refl)
said_other (Reply.Taken collection strength set) call n other = refl
said_other (Reply.Tracker id) (Call.TrackNode key) n other = alone_affected key Effect.Tracked n (other key refl)
said_other (Reply.Tracker id) call n other = refl
said_other reply call n other = refl

-- nor is its end moved, where none is or that of another
pub placed_other : (o : Option EndPlace) (n : Node) → ((p : EndPlace) → o ≡ Some p → same_key p.key n.key ≡ false) →
    placed_node (place_of o) n ≡ n
placed_other None n other = refl
placed_other (Some p) n other = let e : same_key p.key n.key ≡ false = other p refl in rw e refl

-- so the node stays as it was
pub answered_other : (client : ℕ) (call : Call) (reply : Reply) (n : Node) → ((key : NodeKey) → key_of call ≡ Some key →
    same_key key n.key ≡ false) →
    ((p : EndPlace) → end_by client call reply ≡ Some p → same_key p.key n.key ≡ false) → answered client call reply n ≡ n
answered_other client call reply n other apart =
    ap (placed_node (place_of (end_by client call reply))) (said_other reply call n other) ∙ placed_other (end_by client call reply) n apart

-- ---- keys stay

-- what a call sets leaves a node's key
pub said_key_by : (reply : Reply) (call : Call) (n : Node) → (said call reply n).key ≡ n.key
said_key_by Reply.Done (Call.Take key) n = refl
said_key_by Reply.Done call n = refl
said_key_by (Reply.Taken collection strength set) (Call.Take key) n = refl
said_key_by (Reply.Taken collection strength set) call n = refl
said_key_by (Reply.Tracker id) (Call.TrackNode key) n = refl
said_key_by (Reply.Tracker id) call n = refl
said_key_by reply call n = refl

-- also where its end is moved
pub answered_key : (client : ℕ) (call : Call) (reply : Reply) (n : Node) → (answered client call reply n).key ≡ n.key
answered_key client call reply n = said_key_by reply call n

-- ---- the nodes of collections

module _ (pool : ℕ) (limits : Bound) (marks : Timeline) (grown : Grows pool limits [] marks) (client : ℕ) (reply : Reply) (call : Call)
    (answer : IsAnswer limits (readings marks) client call reply)
    (none : birth_at 0 (Called client reply call) ≡ None) where
  -- each node is as the event makes it
  pub nodes-answered : (collection : ℕ) → nodes_after (Called client reply call ∷ marks) collection ≡ map (answered client call reply)
      (nodes_after marks collection)
  nodes-answered collection =
      ap (map (node_after (Called client reply call ∷ marks))) (births-none marks (Called client reply call) collection
      (no_birth 0 (events marks + 1) (Called client reply call) none))
      ∙ map-map_In (node_after marks) (node_after (Called client reply call ∷ marks)) (answered client call reply)
      (births_in marks collection)
      (λ b on. node_called pool limits marks grown client reply call answer none b)
