-- Nodes that go in their places. No public clause of `alloc_event` cites this module.
use Rattle.std.specs.Prelude.{◌≢◌, ℕ, ◌-◌, Bool, true, ◌&&◌, nat_lt, if◌then◌else◌, List, [], ◌∷◌, set, Option, Some, None}
use Rattle.std.specs.List.{AllPairs}
use Rattle.std.specs.Ordering.{nat_cmp, ordering_then}
use Rattle.std.specs.declared.cmp.Ordering.{Ordering}
use Rattle.sm_names.specs.declared.keys.NodeKey.{NodeKey}
use Rattle.node_table.specs.Table.{Table, children_at}
use Rattle.failure_domains.specs.Falls.{IsByLayers}
use Rattle.forest_store.specs.declared.loss_marks.RemovalKind.{RemovalKind}
use Rattle.forest_store.specs.declared.node.Node.{Node}
use Rattle.forest_store.specs.declared.unit_counts.Unit.{Unit}
use Rattle.forest_store.specs.Counts.{head_above, is_unready, unit_at}
use Rattle.forest_store.specs.Nodes.{lost}
use Rattle.forest_store.specs.Questions.{is_live_node}
use Rattle.forest_store.specs.Ties.{IsFall}

-- the order of keys, by slot and then by generation
abbrev pub key_order : NodeKey → NodeKey → Ordering
key_order a b = ordering_then (nat_cmp a.slot b.slot) (nat_cmp a.generation b.generation)

-- one less, if it counted and there is one
abbrev pub lowered : Bool → ℕ → ℕ
lowered is count = if is && nat_lt 0 count then count - 1 else count

-- the node is counted no longer for its unit
abbrev pub without_node : Node → List Unit → List Unit
without_node n units = set units n.head.slot (record {
  live = lowered (is_live_node n) (unit_at units n.head.slot).live;
  unready = lowered (is_unready n) (unit_at units n.head.slot).unready;
  below = (unit_at units n.head.slot).below;
})

-- each node is counted no longer, if it is not gone
abbrev pub uncounted_own : List Node → List Unit → List Unit
uncounted_own [] units = units
uncounted_own (n ∷ ns) units = uncounted_own ns (if n.gone then units else without_node n units)

-- one unit less hangs right below the one with this head
abbrev pub without_below : Option NodeKey → List Unit → List Unit
without_below None units = units
without_below (Some head) units = set units head.slot (record {
  live = (unit_at units head.slot).live;
  unready = (unit_at units head.slot).unready;
  below = lowered true (unit_at units head.slot).below;
})

-- each node is counted no longer for the unit right above the one that it heads
abbrev pub uncounted_above : Table Node → List Node → List Unit → List Unit
uncounted_above t [] units = units
uncounted_above t (n ∷ ns) units = uncounted_above t ns (without_below (head_above t n) units)

-- each node is counted no longer, for its unit and for the one right above that
abbrev pub uncounted_both : Table Node → List Node → List Unit → List Unit
uncounted_both t ns units = uncounted_above t ns (uncounted_own ns units)

-- what a failure takes of the table: each key once, layer by layer
pub record IsTaken (t : Table Node) (origin : NodeKey) (keys : List NodeKey) : Type 0 where
  pub fall : IsFall t origin keys
  pub once : AllPairs (λ (a b : NodeKey). a ≢ b) keys
  pub layers : IsByLayers (children_at t) keys

-- ---- how nodes go

-- the node, gone so
abbrev pub gone_by : RemovalKind → Node → Node
gone_by (RemovalKind.Fails fault) n = lost (λ _. true) fault n
gone_by RemovalKind.Leaves n = record n { gone = true }
