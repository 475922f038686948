-- A collection in which forced steps are being made in their places, one after another. No public clause of `alloc_event` cites
-- this module.
use Rattle.std.specs.Prelude.{◌≡◌, ◌≢◌, ⊤, ℕ, ◌≤◌, Bool, true, false, ◌&&◌, ◌||◌, ◌==◌, ◌⊎◌, not, List, [], ◌∷◌, map, Option, Some, None}
use Rattle.std.specs.List.{list_all, list_any}
use Rattle.std.specs.Option.{option_map_or}
use Rattle.sm_names.specs.declared.keys.Interval.{Interval}
use Rattle.sm_names.specs.declared.keys.NodeKey.{NodeKey}
use Rattle.sm_names.specs.declared.outcomes.Fault.{Fault}
use Rattle.sm_names.specs.Elements.{In}
use Rattle.sm_names.specs.Sameness.{same_key}
use Rattle.node_table.specs.Table.{Table}
use Rattle.forest_store.specs.declared.change.Effect.{Effect}
use Rattle.forest_store.specs.declared.entry.Entry.{Entry}
use Rattle.forest_store.specs.declared.node.Node.{Node}
use Rattle.forest_steps.specs.declared.pending_units.PendingUnit.{PendingUnit}
use Rattle.forest_store.specs.declared.unit_counts.Unit.{Unit}
use Rattle.forest_store.specs.Counts.{hangs_in}
use Rattle.forest_store.specs.Decisions.{is_left_of, waiting}
use Rattle.forest_store.specs.Dropped.{has_given_root}
use Rattle.forest_store.specs.Forest.{Collection, with_nodes}
use Rattle.forest_store.specs.Unkept.{IsPlace}
use Rattle.forest_store.specs.CollectionRows.{SameTable, CollectionRow, collection_in, nodes_with, row_of}
use Rattle.forest_store.specs.Nodes.{after_effect, after_end, after_loss, is_of}
use Rattle.forest_store.specs.Questions.{is_next_node, is_ready_node, has_buffers}
use Rattle.forest_store.specs.Scenes.{is_held_strongly}
use Rattle.forest_store.specs.Settling.{Handles, Settles}
use Rattle.forest_store.specs.Stores.{StoreAgrees}
use Rattle.forest_store.specs.Units.{is_head}

-- ---- what holds units

-- the node holds the unit with this head: it is a live node of it, or heads a unit right below it
abbrev pub holds_unit : List Node → NodeKey → Node → Bool
holds_unit nodes head n = not n.gone && ((same_key n.head head && not n.released) || (n.attached && hangs_in nodes head n))

-- something holds the unit that the node heads, if it heads one and is not gone
abbrev pub is_held : List Node → Node → Bool
is_held nodes n = n.gone || (not (is_head n) || list_any (holds_unit nodes n.key) nodes)

-- something holds each unit but those with these heads
abbrev pub are_held_except : List NodeKey → List Node → Bool
are_held_except unheld nodes = list_all (λ (n : Node). list_any (same_key n.key) unheld || is_held nodes n) nodes

-- ---- whose turn it is

-- the node heads the next attached unit, and is none of these
abbrev pub is_next_except : List NodeKey → List Node → Node → Bool
is_next_except pending nodes n = is_next_node nodes n && not (list_any (same_key n.key) pending)

-- the root's unit does not wait for its buffers alone, unless its head is one of these
abbrev pub waits_among : List NodeKey → List Node → Bool
waits_among pending nodes = option_map_or (λ (n : Node). list_any (same_key n.key) pending) (waiting nodes) true

-- the node heads an attached unit without buffers that waits for no node
abbrev pub is_coming : List Node → Node → Bool
is_coming nodes n = n.attached && (not n.gone && (not n.allocated && list_all (is_ready_node n.key) nodes))

-- the node's parent is in a unit with one of these heads
abbrev pub hangs_in_some : List Node → List NodeKey → Node → Bool
hangs_in_some nodes hs n = option_map_or (λ p. list_any (λ (q : Node). is_of p q && list_any (same_key q.head) hs) nodes) n.parent false

-- each such unit right below one of those with these heads is one of them
abbrev pub AreClosed : List Node → List NodeKey → Type 0
AreClosed nodes hs = (n : Node) → In n nodes → is_coming nodes n ≡ true → hangs_in_some nodes hs n ≡ true →
    list_any (same_key n.key) hs ≡ true

-- the heads of those that may come to their turn
abbrev pub turn_heads : List PendingUnit → List NodeKey
turn_heads ws = map (λ (w : PendingUnit). w.head) ws

-- each stands where its head does among the keys
abbrev pub ArePlaced : List NodeKey → List PendingUnit → Type 0
ArePlaced keys ws = (w : PendingUnit) → In w ws → IsPlace keys w.head w.place

-- each of them has the place of its head, if that is among the keys
abbrev pub ArePlacedIfThere : List NodeKey → List PendingUnit → Type 0
ArePlacedIfThere keys ws = (w : PendingUnit) → In w ws → list_any (same_key w.head) keys ≡ true → IsPlace keys w.head w.place

-- none stands before one that is listed before it
abbrev pub AreInTurn : List PendingUnit → Type 0
AreInTurn [] = ⊤
AreInTurn (w ∷ ws) = ((v : PendingUnit) → In v ws → w.place ≤ v.place) × AreInTurn ws

-- they stand by birth, and each unit that may come to its turn by one of them is one of them
pub record AreTurns (t : Table Node) (keys : List NodeKey) (ws : List PendingUnit) : Type 0 where
  pub placed : ArePlaced keys ws
  pub in_turn : AreInTurn ws
  pub closed : AreClosed (nodes_with t keys) (turn_heads ws)

-- ---- the collection under way

-- forced steps are being made in the collection of the entry, and the store agrees: no unit has buffers where none were given,
-- something holds each unit but those with the loose heads, and only units with the heads that are due are next, or wait as the
-- root's
pub record MidEvent (t : Table Node) (us : List Unit) (ss : List CollectionRow) (e : Entry) (unheld pending : List NodeKey) : Type 0 where
  pub store : StoreAgrees t us ss e
  pub bare : e.buffers ≡ None → list_any has_buffers (nodes_with t e.keys.items) ≡ false
  pub held : are_held_except unheld (nodes_with t e.keys.items) ≡ true
  pub next : list_any (is_next_except pending (nodes_with t e.keys.items)) (nodes_with t e.keys.items) ≡ false
  pub root : waits_among pending (nodes_with t e.keys.items) ≡ true

-- the table differs in the nodes of the collection with this id alone
pub record IsBeside (t now : Table Node) (ss : List CollectionRow) (id : ℕ) : Type 0 where
  pub same : SameTable t now
  pub others : (x : CollectionRow) → In x ss → x.id ≢ id → collection_in now x ≡ collection_in t x

-- wherever forced steps lead from the second collection, they lead from the first
abbrev pub Reaches : ℕ → Handles → List Interval → Collection → Collection → Type 0
Reaches pool handles others c d = (after : Collection) → Settles pool handles others d after → Settles pool handles others c after

-- forced steps were made by which the table, the units and the entry came to be so
pub record AfterSteps (handles : Handles) (t now : Table Node) (us : List Unit) (ss : List CollectionRow) (old new : Entry)
    (unheld pending : List NodeKey)
    : Type 0 where
  pub under : MidEvent now us ss new unheld pending
  pub row : row_of new ≡ row_of old
  pub leads : (pool : ℕ) (others : List Interval) → Reaches pool handles others (collection_in t (row_of old))
      (collection_in now (row_of old))
  pub beside : IsBeside t now ss old.id

-- the key is of a head that is not gone
abbrev pub is_head_left : List Node → NodeKey → Bool
is_head_left nodes key = list_any (λ (n : Node). is_of key n && (not n.gone && is_head n)) nodes

-- ---- an effect

-- the effect was made on the node with this key, whose unit has this head, and nothing else changed: the store agrees
pub record EffectMade (t now : Table Node) (us : List Unit) (ss : List CollectionRow) (old new : Entry) (key : NodeKey) (effect : Effect)
    (head : NodeKey) : Type 0 where
  pub store : StoreAgrees now us ss new
  pub row : row_of new ≡ row_of old
  pub nodes : nodes_with now old.keys.items ≡ after_effect key effect (nodes_with t old.keys.items)
  pub left : is_head_left (nodes_with now old.keys.items) head ≡ true
  pub beside : IsBeside t now ss old.id

-- so it was, and only that unit may be held by nothing then, or come to its turn
pub record AfterEffect (t now : Table Node) (us : List Unit) (ss : List CollectionRow) (old new : Entry) (key : NodeKey) (effect : Effect)
    (head : NodeKey) : Type 0 where
  pub under : MidEvent now us ss new (head ∷ []) (head ∷ [])
  pub row : row_of new ≡ row_of old
  pub nodes : nodes_with now old.keys.items ≡ after_effect key effect (nodes_with t old.keys.items)
  pub left : is_head_left (nodes_with now old.keys.items) head ≡ true
  pub beside : IsBeside t now ss old.id

-- ---- nodes that are removed

-- the nodes once this one is lost by the fault, or without one once it ended
abbrev pub gone_down : Option Fault → NodeKey → List Node → List Node
gone_down None origin nodes = after_end origin nodes
gone_down (Some fault) origin nodes = after_loss fault nodes

-- the node with this key is not gone, and is where the fault began, or heads a unit where there is none
abbrev pub MayGo : List Node → NodeKey → Option Fault → Type 0
MayGo nodes origin None = (is_left_of nodes origin ≡ true) × ((n : Node) → In n nodes → n.key ≡ origin → is_head n ≡ true)
MayGo nodes origin (Some fault) = (is_left_of nodes origin ≡ true) × (fault.origin ≡ origin)

-- with this one, if any
abbrev pub and_loose : Option NodeKey → List NodeKey → List NodeKey
and_loose None unheld = unheld
and_loose (Some head) unheld = head ∷ unheld

-- what is lost or ends with the node is gone, which hung below the unit with this head, if below any, and nothing else changed
pub record AfterRemoval (t now : Table Node) (us : List Unit) (ss : List CollectionRow) (old new : Entry) (origin : NodeKey)
    (fault : Option Fault)
    (above : Option NodeKey) (unheld pending : List NodeKey) : Type 0 where
  pub under : MidEvent now us ss new (and_loose above unheld) pending
  pub row : row_of new ≡ row_of old
  pub nodes : nodes_with now old.keys.items ≡ gone_down fault origin (nodes_with t old.keys.items)
  pub left : option_map_or (is_head_left (nodes_with now old.keys.items)) above true ≡ true
  pub beside : IsBeside t now ss old.id

-- the second are the first, or those once one of them ended
abbrev pub AreOrEnd : List Node → List Node → Type 0
AreOrEnd old now = (now ≡ old) ⊎ ((top : NodeKey) × (now ≡ after_end top old))

-- what is lost by this fault is gone, and what is forced to end then
pub record AfterLoss (handles : Handles) (t now : Table Node) (us : List Unit) (ss : List CollectionRow) (old new : Entry) (fault : Fault)
    (pending : List NodeKey) : Type 0 where
  pub under : MidEvent now us ss new [] pending
  pub row : row_of new ≡ row_of old
  pub leads : (pool : ℕ) (others : List Interval) →
      Reaches pool handles others (with_nodes (after_loss fault) (collection_in t (row_of old))) (collection_in now (row_of old))
  pub beside : IsBeside t now ss old.id
  pub nodes : AreOrEnd (after_loss fault (nodes_with t old.keys.items)) (nodes_with now old.keys.items)

-- ---- what is abandoned

-- no strong node is live, the root has its buffers, and no strong handle is open
abbrev pub is_abandoned_in : Handles → Table Node → Entry → Bool
is_abandoned_in handles t e = e.strong == 0 && (has_given_root t e.keys.items && not (is_held_strongly handles e.id e.buffers))

-- forced steps were made until none is left but that the buffers are abandoned, or none
pub record AfterPropagation (handles : Handles) (t now : Table Node) (us : List Unit) (ss : List CollectionRow)
    (old new : Entry) : Type 0 where
  pub pending : List NodeKey
  pub led : AfterSteps handles t now us ss old new [] pending
  pub out : (pending ≡ []) ⊎ (is_abandoned_in handles now new ≡ true)

-- the same, from the collection with these nodes
pub record PropagatedFrom (handles : Handles) (between : List Node) (t now : Table Node) (us : List Unit) (ss : List CollectionRow)
    (old new : Entry)
    : Type 0 where
  pub pending : List NodeKey
  pub under : MidEvent now us ss new [] pending
  pub row : row_of new ≡ row_of old
  pub leads : (pool : ℕ) (others : List Interval) →
      Reaches pool handles others (record (collection_in t (row_of old)) { nodes = between }) (collection_in now (row_of old))
  pub beside : IsBeside t now ss old.id
  pub out : (pending ≡ []) ⊎ (is_abandoned_in handles now new ≡ true)
