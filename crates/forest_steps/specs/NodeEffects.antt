-- An effect on a node, worked out before it is made. No public clause of `alloc_event` cites this module.
use Rattle.std.specs.Prelude.{◌≡◌, ℕ, ◌+◌, ◌==◌, Bool, true, false, ◌&&◌, ◌||◌, not, get_or, List, Option, Some, None, IfSome, IsSome}
use Rattle.std.specs.Option.{option_map_or}
use Rattle.sm_names.specs.declared.keys.NodeKey.{NodeKey}
use Rattle.node_table.specs.Table.{Table, node_at, row_at}
use Rattle.forest_store.specs.declared.change.Effect.{Effect}
use Rattle.forest_store.specs.declared.entry.Entry.{Entry}
use Rattle.forest_store.specs.declared.node.Node.{Node}
use Rattle.forest_store.specs.declared.store.NodeStore.{NodeStore}
use Rattle.forest_store.specs.declared.store.Store.{Store}
use Rattle.forest_store.specs.declared.unit_counts.Unit.{Unit}
use Rattle.forest_steps.specs.declared.node_effect.EffectCounts.{EffectCounts}
use Rattle.forest_steps.specs.declared.node_effect.NodeEffect.{NodeEffect}
use Rattle.forest_store.specs.Counts.{decrement_if, is_held_by, is_unready, unit_then}
use Rattle.forest_store.specs.Due.{is_due_at}
use Rattle.forest_store.specs.Nodes.{affected}
use Rattle.forest_store.specs.Reserved.{camped}
use Rattle.forest_store.specs.Resting.{is_kept_by}
use Rattle.forest_store.specs.Scenes.{has_tracker_room}
use Rattle.forest_store.specs.Settling.{Handles}
use Rattle.forest_store.specs.CollectionRows.{is_strong, row_of}
use Rattle.forest_store.specs.Unforced.{is_plain}

-- ---- what is counted then

-- the effect neither releases its node nor makes it weak, nor sets its constraints
abbrev pub keeps_counts : Effect → Bool
keeps_counts Effect.Bound = true
keeps_counts Effect.Dispensable = true
keeps_counts Effect.Weak = false
keeps_counts (Effect.WeakOk children) = true
keeps_counts (Effect.Constrained demand) = false
keeps_counts Effect.Taken = true
keeps_counts Effect.Released = false
keeps_counts Effect.Tracked = true

-- the effect changes none of the counts
pub record KeepsCounts (effect : Effect) : Type 0 where
  pub plain : is_plain effect ≡ true
  pub strong : (key : NodeKey) (n : Node) → is_strong (affected key effect n) ≡ is_strong n

-- these are the counts of the unit and of the collection of this node once the effect is made on it
pub record AreCounts (t : Table Node) (us : List Unit) (e : Entry) (key : NodeKey) (effect : Effect) (n : Node)
    (c : EffectCounts) : Type 0 where
  pub head : c.head ≡ n.head
  pub unit : c.unit ≡ unit_then us n (affected key effect n)
  pub due : c.due ≡ (is_unready n && (c.unit.unready == 0 && is_due_at t n.head))
  pub strong : c.strong ≡ decrement_if e.strong (is_strong n) (is_strong (affected key effect n))
  pub reserved : IfSome c.reserved (λ now. (real : ℕ) → real + camped n ≡ e.reserved + camped (affected key effect n) → now ≡ real)

-- these are the counts once the effect is made on the node with this key, which changes none where there are none
abbrev pub AreCountsThen : Table Node → List Unit → Entry → NodeKey → Effect → Option EffectCounts → Type 0
AreCountsThen t us e key effect None = KeepsCounts effect
AreCountsThen t us e key effect (Some c) = (n : Node) → node_at t key ≡ Some n → AreCounts t us e key effect n c

-- the effect is worked out of this store, and of the entry of its collection
abbrev pub IsWorkedOut : NodeStore → Entry → NodeEffect → Type 0
IsWorkedOut s e made = AreCountsThen s.table s.units.items e made.key made.effect made.counts

-- it may be made on its node, which is there and has room for a tracker, if that is what it adds
pub record MayMake (s : NodeStore) (e : Entry) (made : NodeEffect) : Type 0 where
  pub there : IsSome (row_at s.table made.key)
  pub room : (n : Node) → node_at s.table made.key ≡ Some n → has_tracker_room made.key made.effect n ≡ true
  pub worked : IsWorkedOut s e made

-- so it is of the entry at this place
abbrev pub IsWorkedOutAt : Store → ℕ → NodeEffect → Type 0
IsWorkedOutAt s at made = (e : Entry) → e ≡ get_or s.entries.items at e → IsWorkedOut s.nodes e made

-- ---- what it forces

-- something may be forced of the unit with these counts, if any changed: nothing holds it, or it gets its buffers next
abbrev pub may_force : Option EffectCounts → Bool
may_force counts = option_map_or (λ (c : EffectCounts). c.due || not (is_held_by c.unit)) counts false

-- this many strong nodes of the collection are live then
abbrev pub strong_then : Entry → Option EffectCounts → ℕ
strong_then e counts = option_map_or (λ (c : EffectCounts). c.strong) counts e.strong

-- nothing is forced by the effect: nothing of the unit, and a strong node of the collection is live, or it rests without one
abbrev pub is_unforced : Handles → Table Node → Entry → NodeEffect → Bool
is_unforced handles t e made = not (may_force made.counts) && is_kept_by handles t (row_of e) (strong_then e made.counts)

-- so it is at this place
abbrev pub IsUnforcedAt : Handles → Store → ℕ → NodeEffect → Type 0
IsUnforcedAt handles s at made = (e : Entry) → e ≡ get_or s.entries.items at e → is_unforced handles s.nodes.table e made ≡ true
