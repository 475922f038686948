-- The initial allocation of a collection, and its outcome. No public clause of `alloc_event` cites this module.
use Rattle.std.specs.Prelude.{◌≡◌, ℕ, ◌≤◌, ◌⊎◌, Bool, true, false, ◌||◌, ◌&&◌, ◌==◌, not}
use Rattle.std.specs.Prelude.{nat_lt, if◌then◌else◌, List, [], ◌∷◌, Option, Some, None, Result, Ok, Err, IfOk}
use Rattle.std.specs.List.{filter_map, sum_by}
use Rattle.std.specs.Option.{option_and_then, option_map_or}
use Rattle.sm_names.specs.declared.keys.HeldBuffer.{HeldBuffer}
use Rattle.sm_names.specs.declared.keys.Interval.{Interval}
use Rattle.sm_names.specs.declared.keys.NodeKey.{NodeKey}
use Rattle.sm_names.specs.declared.outcomes.Buffers.{Buffers}
use Rattle.sm_names.specs.declared.outcomes.Cause.{Cause}
use Rattle.sm_names.specs.declared.outcomes.Failure.{Failure}
use Rattle.sm_names.specs.Demands.{Demand}
use Rattle.sm_names.specs.Pages.{places, pages_of}
use Rattle.sm_names.specs.Sameness.{same_key}
use Rattle.sm_names.specs.Words.{first_some, when}
use Rattle.sm_names.specs.declared.rules.TheConstants.{MAX_BUFFERS, MAX_SIZE}
use Rattle.buffer_pool.specs.Holdings.{Holdings}
use Rattle.node_table.specs.Table.{Table, node_at}
use Rattle.forest_store.specs.declared.change.Effect.{Effect}
use Rattle.forest_store.specs.declared.entry.Entry.{Entry}
use Rattle.forest_store.specs.declared.node.Node.{Node}
use Rattle.forest_steps.specs.declared.initial_allocation.Plan.{Plan}
use Rattle.forest_steps.specs.declared.initial_allocation.AllocationOutcome.{AllocationOutcome}
use Rattle.forest_store.specs.declared.unit_counts.Unit.{Unit}
use Rattle.forest_store.specs.Counts.{decrement_if, is_held_by, unit_then}
use Rattle.forest_store.specs.Decisions.{waiting}
use Rattle.forest_steps.specs.First.{IsLaid, wanted_of}
use Rattle.forest_store.specs.Forest.{Collection, with_nodes}
use Rattle.forest_store.specs.CollectionRows.{CollectionRow, collection_in, is_strong, put_row, row_of, written}
use Rattle.forest_store.specs.Nodes.{affected, after_allocation, after_loss}
use Rattle.forest_store.specs.Questions.{is_root_left}
use Rattle.forest_store.specs.Scenes.{given_few}
use Rattle.forest_store.specs.UnitAllocation.{asked_with}
use Rattle.forest_store.specs.Settling.{Handles}
use Rattle.forest_steps.specs.LogicalAllocation.{IsUnitListed}
use Rattle.forest_steps.specs.MidEvent.{IsBeside, MidEvent, Reaches, is_abandoned_in}

-- ---- whether the root's unit is to be allocated

-- something holds the unit with these counts, and it waits for no node
abbrev pub is_held_ready : Unit → Bool
is_held_ready unit = unit.unready == 0 && is_held_by unit

-- the node with this key is a root that is not gone, and its unit has no buffers
abbrev pub is_bare_root : Table Node → NodeKey → Bool
is_bare_root t key = option_map_or (λ (n : Node). is_root_left n && not n.allocated) (node_at t key) false

-- the effect on the node with this key makes the root's unit ready, by the counts
abbrev pub comes_first : Table Node → List Unit → NodeKey → Effect → Bool
comes_first t us key effect = option_map_or
    (λ (n : Node). is_bare_root t n.head && is_held_ready (unit_then us n (affected key effect n)))
    (node_at t key) false

-- ---- its outcome

-- what the unit is to be given, which wants this, or why it can't be given any, whatever pages are held
abbrev pub wants_of : Bool → Buffers → Result Buffers Failure
wants_of strong wants = option_map_or Err (first_some (
    when (not strong) Failure.NoStrong
    ∷ when (wants.count == 0) Failure.NoBuffers
    ∷ when (nat_lt MAX_BUFFERS wants.count) Failure.TooManyBuffers
    ∷ [])) (Ok wants)

-- the buffers are some, and not too many
abbrev pub AreSome : Buffers → Type 0
AreSome wants = (1 ≤ wants.count) × (wants.count ≤ MAX_BUFFERS) × (1 ≤ wants.size) × (wants.size ≤ MAX_SIZE)

-- the node is in an allocated unit once the one with this head is, and not gone
abbrev pub has_buffers_then : NodeKey → Node → Bool
has_buffers_then head n = not n.gone && (same_key head n.head || n.allocated)

-- what the node with this key asks for, if it has buffers then, where `after` replaces the node with its key
abbrev pub allocated_at : Table Node → NodeKey → Node → NodeKey → Option Demand
allocated_at t head after key = option_and_then
    (λ (n : Node). if has_buffers_then head (written after n) then (written after n).constraints else None) (node_at t key)

-- what those with these keys ask for so
abbrev pub allocated_with : Table Node → List NodeKey → NodeKey → Node → List Demand
allocated_with t keys head after = filter_map (allocated_at t head after) keys

-- this many buffers are reserved once the unit with this head is allocated, which camps on this many, where this node is in the
-- place of the
-- one with its key
abbrev pub IsReservedThen : Table Node → Entry → NodeKey → Node → ℕ → ℕ → Type 0
IsReservedThen t e head after camping result =
    ((e.reserved ≡ 0) × (result ≡ camping)) ⊎ (result ≡ sum_by (λ (d : Demand). d.camping) (allocated_with t e.keys.items head after))

-- the effect makes the root's unit ready: the plan has its head, what it wants or why it can't get buffers, and how much is
-- reserved once it is allocated
pub record IsPlanned (t : Table Node) (us : List Unit) (e : Entry) (key : NodeKey) (effect : Effect) (plan : Plan) : Type 0 where
  pub node : Node
  pub was : node_at t key ≡ Some node
  pub head_is : plan.head ≡ node.head
  pub keys : List NodeKey
  pub listed : IsUnitListed t node.head keys
  pub wants_is : plan.wants ≡ wants_of (nat_lt 0 (decrement_if e.strong (is_strong node) (is_strong (affected key effect node))))
      (wanted_of (asked_with t keys (node.head ∷ []) (affected key effect node)))
  pub some : IfOk plan.wants AreSome
  pub reserved_is : IsReservedThen t e node.head (affected key effect node)
      (sum_by (λ (d : Demand). d.camping) (asked_with t keys (node.head ∷ []) (affected key effect node))) plan.reserved

-- what the pool made of it: the buffers are placed and stand before the others, or the pool is as it was
abbrev pub IsAllocationOutcome : Holdings → Holdings → ℕ → List HeldBuffer → Result Buffers Failure → AllocationOutcome → Type 0
IsAllocationOutcome old new id others (Err why) verdict = (verdict ≡ AllocationOutcome.Fails why) × (new ≡ old)
IsAllocationOutcome old new id others (Ok wants) (AllocationOutcome.Fails why) =
    (why ≡ Failure.PoolFull) × (places old.size (pages_of wants.size) wants.count old.held ≡ None) × (new ≡ old)
IsAllocationOutcome old new id others (Ok wants) (AllocationOutcome.Given buffers held) = (buffers ≡ wants)
    × IsLaid old new id wants others held.items

-- ---- the steps

-- the collection once its root, with this key, is lost, or its unit allocated
abbrev pub first_made : NodeKey → AllocationOutcome → Collection → Collection
first_made head (AllocationOutcome.Fails why) c = with_nodes (after_loss (record { cause = Cause.Failed why; origin = head })) c
first_made head (AllocationOutcome.Given buffers held) c =
    record { id = c.id; nodes = after_allocation head c.nodes; buffers = Some buffers; held = held.items }

-- the row then
abbrev pub row_then : AllocationOutcome → CollectionRow → CollectionRow
row_then (AllocationOutcome.Fails why) s = s
row_then (AllocationOutcome.Given buffers held) s = record { id = s.id; keys = s.keys; buffers = Some buffers; held = held.items }

-- the buffers are not too many, if any are given
abbrev pub gives_few : AllocationOutcome → Bool
gives_few (AllocationOutcome.Fails why) = true
gives_few (AllocationOutcome.Given buffers held) = given_few (Some buffers)

-- the root's unit waits for its buffers alone, and this is its head
pub record IsComing (nodes : List Node) (head : NodeKey) : Type 0 where
  pub root : Node
  pub waits : waiting nodes ≡ Some root
  pub own : root.key ≡ head

-- that was made, and the forced steps that follow, by which the table, the units and the entry came to be so, until none is left but
-- that the buffers are abandoned, or none
pub record IsRooted (handles : Handles) (t now : Table Node) (us : List Unit) (ss : List CollectionRow) (old new : Entry) (head : NodeKey)
    (verdict : AllocationOutcome) : Type 0 where
  pub pending : List NodeKey
  pub under : MidEvent now us (put_row (row_of new) ss) new [] pending
  pub row : row_of new ≡ row_then verdict (row_of old)
  pub leads : (pool : ℕ) (others : List Interval) → Reaches pool handles others
      (first_made head verdict (collection_in t (row_of old))) (collection_in now (row_of new))
  pub beside : IsBeside t now ss old.id
  pub out : (pending ≡ []) ⊎ (is_abandoned_in handles now new ≡ true)
