-- What is counted of units. No public clause of `alloc_event` cites this module.
use Rattle.std.specs.Prelude.{◌≡◌, ◌≢◌, ℕ, ◌+◌, ◌<◌, ◌≤◌, Bool, ◌&&◌, ◌||◌, not, nat_lt, slice_index_or, if◌then◌else◌}
use Rattle.std.specs.Prelude.{List, [], ◌∷◌, map, length, set, is_some, true, false, Option, Some, None, option_map, ◌-◌}
use Rattle.std.specs.List.{AllByRecursion, list_any}
use Rattle.std.specs.Option.{option_map_or}
use Rattle.sm_names.specs.declared.keys.NodeKey.{NodeKey}
use Rattle.sm_names.specs.Sameness.{same_key}
use Rattle.sm_names.specs.Words.{times}
use Rattle.node_table.specs.Table.{Table, node_at}
use Rattle.forest_store.specs.declared.entry.Entry.{Entry}
use Rattle.forest_store.specs.declared.node.Node.{Node}
use Rattle.forest_store.specs.declared.unit_counts.Unit.{Unit}
use Rattle.forest_store.specs.Forest.{Collection}
use Rattle.forest_store.specs.CollectionRows.{collection_in, rows_of}
use Rattle.forest_store.specs.Nodes.{is_of}
use Rattle.forest_store.specs.Questions.{is_live_node, is_ready_node}

-- ---- what is counted

-- the node is live, and in the unit with this head
abbrev pub lives_in : NodeKey → Node → Bool
lives_in head n = is_live_node n && same_key n.head head

-- the unit with this head waits for the node
abbrev pub waits_in : NodeKey → Node → Bool
waits_in head n = not (is_ready_node head n)

-- its unit waits for the node
abbrev pub is_unready : Node → Bool
is_unready n = not n.gone && (not n.released && not (is_some n.constraints))

-- the node's parent is in the unit with this head
abbrev pub hangs_in : List Node → NodeKey → Node → Bool
hangs_in nodes head n = option_map_or (λ p. list_any (λ q. is_of p q && same_key q.head head) nodes) n.parent false

-- the node heads a unit right below the one with this head, and is not gone
abbrev pub heads_below : List Node → NodeKey → Node → Bool
heads_below nodes head n = not n.gone && (n.attached && hangs_in nodes head n)

-- the counts of the unit with this head
abbrev pub unit_of : List Node → NodeKey → Unit
unit_of nodes head = record {
  live = times (lives_in head) nodes;
  unready = times (waits_in head) nodes;
  below = times (heads_below nodes head) nodes;
}

-- a node of the unit with these counts lives, or a unit hangs right below it
abbrev pub is_held_by : Unit → Bool
is_held_by unit = nat_lt 0 unit.live || nat_lt 0 unit.below

-- those of no unit
abbrev pub no_unit : Unit
no_unit = record { live = 0; unready = 0; below = 0 }

-- the counts in this slot
abbrev pub unit_at : List Unit → ℕ → Unit
unit_at units slot = slice_index_or units slot no_unit

-- the slot of the node's key is in the list, with the counts of the unit that has that head
abbrev pub HasUnit : List Unit → List Node → Node → Type 0
HasUnit units nodes n = (n.key.slot < length units) × (unit_at units n.key.slot ≡ unit_of nodes n.key)

-- so of each of these nodes
abbrev pub HasUnits : List Unit → List Node → Type 0
HasUnits units nodes = AllByRecursion (HasUnit units nodes) nodes

-- so of each collection
abbrev pub AreUnits : List Unit → List Collection → Type 0
AreUnits units cs = AllByRecursion (λ (c : Collection). HasUnits units c.nodes) cs

-- and of each but the one with this id
abbrev pub AreUnitsExcept : List Unit → ℕ → List Collection → Type 0
AreUnitsExcept units id cs = AllByRecursion (λ (c : Collection). c.id ≢ id → HasUnits units c.nodes) cs

-- so of each collection of a forest
abbrev pub HaveUnits : List Unit → Table Node → List Entry → Type 0
HaveUnits units t es = AreUnits units (map (collection_in t) (rows_of es))

-- the list is as long at least, and each slot counts what it did
pub record Extends (old new : List Unit) : Type 0 where
  pub longer : length old ≤ length new
  pub same : (slot : ℕ) → unit_at new slot ≡ unit_at old slot

-- one less, if it counted and counts no longer
abbrev pub decrement_if : ℕ → Bool → Bool → ℕ
decrement_if count was is = if was && (not is && nat_lt 0 count) then count - 1 else count

-- the counts of the unit of the first node once it is the second one
abbrev pub unit_then : List Unit → Node → Node → Unit
unit_then us n after = record {
  live = decrement_if (unit_at us n.head.slot).live (is_live_node n) (is_live_node after);
  unready = decrement_if (unit_at us n.head.slot).unready (is_unready n) (is_unready after);
  below = (unit_at us n.head.slot).below;
}

-- ---- counting anew

-- one more, if it counts and there is room for it
abbrev pub increment_if : Bool → ℕ → ℕ
increment_if is count = if is && nat_lt count 18446744073709551615 then count + 1 else count

-- the node is counted for its unit
abbrev pub with_node : Node → List Unit → List Unit
with_node n units = set units n.head.slot (record {
  live = increment_if (is_live_node n) (unit_at units n.head.slot).live;
  unready = increment_if (is_unready n) (unit_at units n.head.slot).unready;
  below = (unit_at units n.head.slot).below;
})

-- each node is, if it is not gone
abbrev pub counted_own : List Node → List Unit → List Unit
counted_own [] units = units
counted_own (n ∷ ns) units = counted_own ns (if n.gone then units else with_node n units)

-- the head of the unit of the node with this key
abbrev pub head_of : Table Node → NodeKey → Option NodeKey
head_of t key = option_map (λ (n : Node). n.head) (node_at t key)

-- the head of the unit right above the one that the node heads, if it heads one and is not gone
abbrev pub head_above : Table Node → Node → Option NodeKey
head_above t n = if n.gone || not n.attached then None else option_map_or (head_of t) n.parent None

-- one more unit hangs right below the one with this head
abbrev pub with_below : Option NodeKey → List Unit → List Unit
with_below None units = units
with_below (Some head) units = set units head.slot (record {
  live = (unit_at units head.slot).live;
  unready = (unit_at units head.slot).unready;
  below = increment_if true (unit_at units head.slot).below;
})

-- each node is counted for the unit right above the one that it heads
abbrev pub counted_above : Table Node → List Node → List Unit → List Unit
counted_above t [] units = units
counted_above t (n ∷ ns) units = counted_above t ns (with_below (head_above t n) units)

-- each node is counted, for its unit and for the one right above that
abbrev pub counted_both : Table Node → List Node → List Unit → List Unit
counted_both t ns units = counted_above t ns (counted_own ns units)
