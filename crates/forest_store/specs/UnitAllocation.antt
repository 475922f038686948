-- An attached unit that becomes ready and is allocated in its place, and those below it that follow.
-- No public clause of `alloc_event` cites this module.
use Rattle.std.specs.Prelude.{◌≡◌, ◌≢◌, ◌↔◌, ℕ, Bool, false, ◌||◌, ◌&&◌, ◌==◌, not, nat_lt}
use Rattle.std.specs.Prelude.{if◌then◌else◌, List, [], ◌∷◌, length, filter, AllPairs, Contains, Option, None, option_map, ◌⊎◌}
use Rattle.std.specs.List.{filter_map, list_any}
use Rattle.std.specs.Option.{option_and_then, option_map_or}
use Rattle.sm_names.specs.declared.keys.NodeKey.{NodeKey}
use Rattle.sm_names.specs.Demands.{Demand}
use Rattle.sm_names.specs.Sameness.{same_key}
use Rattle.node_table.specs.Table.{Table, node_at, parent_at}
use Rattle.failure_domains.specs.Falls.{Within, stopped_at}
use Rattle.forest_store.specs.declared.node.Node.{Node}
use Rattle.forest_store.specs.declared.unit_counts.Unit.{Unit}
use Rattle.forest_store.specs.Counts.{unit_at}
use Rattle.forest_store.specs.Falls.{given_all}
use Rattle.forest_store.specs.CollectionRows.{SameTable, written}
use Rattle.forest_store.specs.Questions.{has_buffers}

-- ---- whether the unit is to be allocated

-- there is a node with this key that is not gone, and its unit has its buffers
abbrev pub has_buffers_there : Table Node → NodeKey → Bool
has_buffers_there t key = option_map_or has_buffers (node_at t key) false

-- the node is attached, not gone, and its unit has no buffers
abbrev pub is_waiting_head : Node → Bool
is_waiting_head n = n.attached && (not n.gone && not n.allocated)

-- the unit with this head is attached and has no buffers, and the one above it has them
abbrev pub has_turn_at : Table Node → NodeKey → Bool
has_turn_at t head =
    option_map_or is_waiting_head (node_at t head) false && option_map_or (has_buffers_there t) (parent_at t head) false

-- there is a node with this key, of a unit with one of these heads
abbrev pub is_of_some : Table Node → List NodeKey → NodeKey → Bool
is_of_some t heads key = option_map_or (λ (n : Node). list_any (same_key n.head) heads) (node_at t key) false

-- the node heads a unit right below one of those with these heads, which has no buffers, and waits for no node, by the counts
abbrev pub hangs_below : Table Node → List Unit → List NodeKey → Node → Bool
hangs_below t units heads n =
    is_waiting_head n && ((unit_at units n.key.slot).unready == 0 && option_map_or (is_of_some t heads) n.parent false)

-- the node does, and is none of these heads
abbrev pub is_left_out : Table Node → List Unit → List NodeKey → Node → Bool
is_left_out t units heads n = hangs_below t units heads n && not (list_any (same_key n.key) heads)

-- the node with this key does, and is none
abbrev pub left_out_at : Table Node → List Unit → List NodeKey → NodeKey → Bool
left_out_at t units heads key = option_map_or (is_left_out t units heads) (node_at t key) false

-- ---- which units are allocated with it

-- the node heads a unit of the collection that is attached, has no buffers, and waits for no node, by the counts
abbrev pub is_ready_head : List Unit → ℕ → Node → Bool
is_ready_head units id n =
    n.collection == id && (nat_lt n.key.slot (length units) && (is_waiting_head n && (unit_at units n.key.slot).unready == 0))

-- the node with this key is this head, or does
abbrev pub is_head_at : Table Node → List Unit → ℕ → NodeKey → NodeKey → Bool
is_head_at t units id head key = same_key key head || option_map_or (is_ready_head units id) (node_at t key) false

-- the node heads a unit that is attached and is not such a one
abbrev pub is_outside : List Unit → ℕ → Node → Bool
is_outside units id n = n.attached && not (is_ready_head units id n)

-- the keys are those of what lies at and below this head within the units that may be allocated with its own: of all their nodes, and
-- of the heads right below them
pub record IsWalked (t : Table Node) (units : List Unit) (id : ℕ) (head : NodeKey) (keys : List NodeKey) : Type 0 where
  pub within : (key : NodeKey) → Contains keys key ↔ Within (parent_at t) (stopped_at (is_outside units id) t head) head key
  pub once : AllPairs (λ (a b : NodeKey). a ≢ b) keys

-- the others are those of these keys that head such a unit
abbrev pub AreHeads : Table Node → List Unit → ℕ → NodeKey → List NodeKey → List NodeKey → Type 0
AreHeads t units id head keys heads =
    (key : NodeKey) → list_any (same_key key) heads ≡ list_any (same_key key) (filter (is_head_at t units id head) keys)

-- the keys are so, and the heads are those of all these units, or this one alone
pub record IsGathered (t : Table Node) (units : List Unit) (id : ℕ) (head : NodeKey) (heads keys : List NodeKey) : Type 0 where
  pub walked : IsWalked t units id head keys
  pub are : (heads ≡ head ∷ []) ⊎ AreHeads t units id head keys heads

-- ---- what they ask for

-- the node is in one of the units with these heads, and not gone
abbrev pub is_in_some : List NodeKey → Node → Bool
is_in_some heads n = not n.gone && list_any (same_key n.head) heads

-- what the node with this key asks for, if it is of one of these units and not gone, where this node is in the place of the one
-- with its key
abbrev pub asked_at : Table Node → List NodeKey → Node → NodeKey → Option Demand
asked_at t heads after key =
    option_and_then (λ (n : Node). if is_in_some heads (written after n) then (written after n).constraints else None) (node_at t key)

-- what those with these keys ask for so
abbrev pub asked_with : Table Node → List NodeKey → List NodeKey → Node → List Demand
asked_with t keys heads after = filter_map (asked_at t heads after) keys

-- ---- the allocation

-- the node has its unit's buffers, if it is of one of these units and its key is one of these
abbrev pub given_at : List NodeKey → List NodeKey → Node → Node
given_at heads keys n = if list_any (same_key n.key) keys then given_all heads n else n

-- so it is in the table, where nothing else changed
pub record IsGivenAt (old new : Table Node) (heads keys : List NodeKey) : Type 0 where
  pub look : (key : NodeKey) → node_at new key ≡ option_map (given_at heads keys) (node_at old key)
  pub parents : (key : NodeKey) → parent_at new key ≡ parent_at old key
  pub same : SameTable old new
