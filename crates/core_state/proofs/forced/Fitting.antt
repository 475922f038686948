-- What an event leaves of a collection: its id, and the keys of its nodes.
use Rattle.core_state.proofs.Common.{Allocated, Bool, Called, Change, Collection, Ended, Handles, In, In-front, In-map-back, Interval}
use Rattle.core_state.proofs.Common.{List, Loss, Mark, Node, NodeKey, None, Option, Settles, Some, [], affected, after_allocation, asked}
use Rattle.core_state.proofs.Common.{changed, ended, false, given_buffers, if◌then◌else◌, is_root_of, is_taken, layout, lost, made, map}
use Rattle.core_state.proofs.Common.{members_of, new_child, new_root, node_of, option_map_or, pages_in, refl, subst, sym, true}
use Rattle.core_state.proofs.Common.{with_nodes, ℕ, ◌++◌, ◌∙◌, ◌∷◌, ◌≡◌}
use Rattle.forest_store.specs.Settling.{Rests, Forces}
use Rattle.forest_store.proofs.changes.Altering.{same_affected}

-- the second collection is what became of the first
pub record Keeps (c d : Collection) : Type 0 where
  pub same_id : d.id ≡ c.id
  pub keys : (n : Node) → In n c.nodes → (m : Node) × In m d.nodes × (m.key ≡ n.key)

-- nothing happened
nothing : (c : Collection) → Keeps c c
nothing c = record { same_id = refl; keys = λ n in_nodes. (n, in_nodes, refl) }

-- one after another
after_that : (c d e : Collection) → Keeps c d → Keeps d e → Keeps c e
after_that c d e first next = record {
  same_id = next.same_id ∙ first.same_id;
  keys = λ n in_nodes. let m = first.keys n in_nodes in let k = next.keys m.0 m.1 in (k.0, k.1, k.2 ∙ m.2);
}

-- a map of the nodes that keeps their keys, whatever else becomes of the collection
mapped : (f : Node → Node) → ((n : Node) → (f n).key ≡ n.key) → (c d : Collection) → d.id ≡ c.id → d.nodes ≡ map f c.nodes → Keeps c d
mapped f same c d id nodes = record {
  same_id = id;
  keys = λ n in_nodes. (f n, subst (In (f n)) (sym nodes) (In-map-back f c.nodes n in_nodes), same n);
}

-- one more node
born : (c : Collection) (new : Node) → Keeps c (with_nodes (λ nodes. nodes ++ new ∷ []) c)
born c new = record { same_id = refl; keys = λ n in_nodes. (n, In-front c.nodes (new ∷ []) n in_nodes, refl) }

-- one of two
either : (b : Bool) (c d e : Collection) → Keeps c d → Keeps c e → Keeps c (if b then d else e)
either true c d e first later = first
either false c d e first later = later

-- a mark
made_keeps : (pool : ℕ) (others : List Interval) (c : Collection) (mark : Mark) → Keeps c (made pool others mark c)
made_keeps pool others c (Called client reply call) = nothing c
made_keeps pool others c (Loss origin cause) =
    mapped (lost (is_taken c.nodes origin) (record { cause = cause; origin = origin })) (λ n. refl) c _ refl refl
made_keeps pool others c (Allocated head) =
    either (is_root_of c head) c (record {
      id = c.id;
      nodes = after_allocation head c.nodes;
      buffers = Some (asked (members_of c.nodes));
      held = layout pool c.id (asked (members_of c.nodes)) (pages_in c ++ others) ++ c.held;
    }) (with_nodes (after_allocation head) c) (mapped (given_buffers head) (λ n. refl) c _ refl refl)
    (mapped (given_buffers head) (λ n. refl) c _ refl refl)
made_keeps pool others c (Ended top) = mapped (ended c.nodes top) (λ n. refl) c _ refl refl

-- all forced steps
settles_keeps : (pool : ℕ) (handles : Handles) (others : List Interval) (c after : Collection) → Settles pool handles others c after →
    Keeps c after
settles_keeps pool handles others c after (Rests rests none) = nothing c
settles_keeps pool handles others c after (Forces from to mark is on) =
    after_that from (made pool others mark from) to (made_keeps pool others from mark) (settles_keeps pool handles others
    (made pool others mark from) to on)

-- the birth of a child
child_born : (attached : Bool) (key : NodeKey) (event client : ℕ) (c : Collection) (o : Option Node) →
    Keeps c (option_map_or (λ n. record c { nodes = c.nodes ++ new_child attached key event client n ∷ [] }) o c)
child_born attached key event client c None = nothing c
child_born attached key event client c (Some n) = born c (new_child attached key event client n)

-- what the event changes
changed_keeps : (change : Change) (key : NodeKey) (c : Collection) → Keeps c (changed change key c)
changed_keeps (Change.Birth None attached client event) key c = born c (new_root key c.id event client)
changed_keeps (Change.Birth (Some above) attached client event) key c = child_born attached key event client c (node_of c.nodes above)
changed_keeps (Change.Effect on effect) key c = mapped (affected on effect) (λ n. (same_affected on effect n).key) c _ refl refl
changed_keeps (Change.Loss origin cause) key c =
    mapped (lost (is_taken c.nodes origin) (record { cause = cause; origin = origin })) (λ n. refl) c _ refl refl
changed_keeps Change.Nothing key c = nothing c

-- what the event changes, and all that it forces
pub event_keeps : (pool : ℕ) (handles : Handles) (others : List Interval) (change : Change) (key : NodeKey) (c after : Collection) →
    Settles pool handles others (changed change key c) after → Keeps c after
event_keeps pool handles others change key c after settles =
    after_that c (changed change key c) after (changed_keeps change key c)
    (settles_keeps pool handles others (changed change key c) after settles)
