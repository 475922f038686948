-- The buffers of a collection and their pages, what holds of every collection, and what an effect may ask of a node.
use Rattle.std.specs.Prelude.{ℕ, ◌+◌, Bool, true, ◌||◌, ◌&&◌, not, nat_lt, nat_le, List, [], ◌∷◌, map, drop, Option, ◌≡◌, is_none, is_some}
use Rattle.std.specs.List.{list_any, list_all}
use Rattle.std.specs.Option.{option_map_or}
use Rattle.sm_names.specs.declared.keys.BufferName.{BufferName}
use Rattle.sm_names.specs.declared.keys.Interval.{Interval}
use Rattle.sm_names.specs.declared.keys.NodeKey.{NodeKey}
use Rattle.sm_names.specs.declared.keys.Strength.{Strength}
use Rattle.sm_names.specs.declared.outcomes.Buffers.{Buffers}
use Rattle.sm_names.specs.Handles.{is_home, names}
use Rattle.sm_names.specs.Sameness.{same_key}
use Rattle.sm_names.specs.declared.keys.HeldBuffer.{HeldBuffer}
use Rattle.sm_names.specs.Words.{sorted_by}
use Rattle.sm_names.specs.declared.rules.TheConstants.{MAX_BUFFERS, MAX_NODE_TRACKERS}
use Rattle.forest_store.specs.declared.change.Effect.{Effect}
use Rattle.forest_store.specs.declared.node.Node.{Node}
use Rattle.forest_store.specs.Forest.{Collection}
use Rattle.forest_store.specs.Nodes.{is_of}

-- the collection's buffer with this index
abbrev pub name_of : ℕ → ℕ → BufferName
name_of collection index = record { collection = collection; index = index }

-- the collection's buffers from this index on, of this many pages each, at these starts
abbrev pub laid : ℕ → ℕ → ℕ → List ℕ → List HeldBuffer
laid collection pages index [] = []
laid collection pages index (start ∷ starts) =
    record { buffer = record { collection = collection; index = index }; pages = record { start = start; pages = pages } }
    ∷ laid collection pages (index + 1) starts

-- their pages
abbrev pub pages_held : List HeldBuffer → List Interval
pages_held held = map (λ (h : HeldBuffer). h.pages) held

-- the intervals in order of page
abbrev pub by_page : List Interval → List Interval
by_page is = sorted_by (λ (i : Interval). i.start) is

-- the buffer is not home, by the open handles, and whether a strong node is live
abbrev pub is_out : (BufferName → Strength → ℕ) → Bool → HeldBuffer → Bool
is_out handles strong_live h = not (is_home (handles h.buffer Strength.Strong) (handles h.buffer Strength.Weak) strong_live)

-- no two of the nodes have one key
abbrev pub are_distinct : List Node → Bool
are_distinct [] = true
are_distinct (n ∷ ns) = not (list_any (is_of n.key) ns) && are_distinct ns

-- a root, or an attached node, heads its unit itself
abbrev pub heads_itself : Node → Bool
heads_itself n = not (is_none n.parent || n.attached) || same_key n.head n.key

-- at most `MAX_BUFFERS` buffers, if any
abbrev pub given_few : Option Buffers → Bool
given_few buffers = option_map_or (λ (b : Buffers). nat_le b.count MAX_BUFFERS) buffers true

-- a strong handle is open on one of the buffers that were given
abbrev pub is_held_strongly : (BufferName → Strength → ℕ) → ℕ → Option Buffers → Bool
is_held_strongly open_of id buffers =
    list_any (λ b. nat_lt 0 (open_of b Strength.Strong)) (option_map_or (λ (b : Buffers). names id b.count) buffers [])

-- what holds of every collection
pub record IsSound (c : Collection) : Type 0 where
  pub distinct : are_distinct c.nodes ≡ true
  pub heads : list_all heads_itself c.nodes ≡ true
  -- only the first node may be a root
  pub one_root : list_all (λ (n : Node). is_some n.parent) (drop 1 c.nodes) ≡ true
  -- it was given at most `MAX_BUFFERS` buffers
  pub few : given_few c.buffers ≡ true

-- the effect makes no tracker on the node beyond `MAX_NODE_TRACKERS`
abbrev pub has_tracker_room : NodeKey → Effect → Node → Bool
has_tracker_room key Effect.Tracked n = not (same_key key n.key) || nat_lt n.trackers MAX_NODE_TRACKERS
has_tracker_room key Effect.Bound n = true
has_tracker_room key Effect.Dispensable n = true
has_tracker_room key Effect.Weak n = true
has_tracker_room key (Effect.WeakOk children) n = true
has_tracker_room key (Effect.Constrained demand) n = true
has_tracker_room key Effect.Taken n = true
has_tracker_room key Effect.Released n = true
