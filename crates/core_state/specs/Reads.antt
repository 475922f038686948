-- What answers and views read of a core's state.
use Rattle.std.specs.Prelude.{ℕ, ◌-◌, Bool, true, false, ◌&&◌, ◌==◌, not, if◌then◌else◌, List, [], length, Option, Some, None, is_some}
use Rattle.std.specs.List.{find, filter, list_any, sum_by}
use Rattle.std.specs.Option.{option_map_or, option_and_then}
use Rattle.sm_names.specs.declared.keys.BufferName.{BufferName}
use Rattle.sm_names.specs.declared.keys.Kind.{Kind}
use Rattle.sm_names.specs.declared.keys.NodeKey.{NodeKey}
use Rattle.sm_names.specs.declared.keys.Strength.{Strength}
use Rattle.sm_names.specs.declared.messages.Call.{Call}
use Rattle.sm_names.specs.declared.outcomes.Buffers.{Buffers}
use Rattle.sm_names.specs.declared.outcomes.Fault.{Fault}
use Rattle.sm_names.specs.Answers.{OpenEnd, Readings}
use Rattle.sm_names.specs.Handles.{is_doomed}
use Rattle.sm_names.specs.Members.{some_strong_live}
use Rattle.sm_names.specs.declared.keys.HeldBuffer.{HeldBuffer}
use Rattle.sm_names.specs.Timelines.{key_of}
use Rattle.sm_names.specs.Trackers.{World}
use Rattle.sm_names.specs.Views.{Views}
use Rattle.buffer_holds.specs.Counts.{of, total}
use Rattle.forest_store.specs.declared.node.End.{End}
use Rattle.forest_store.specs.declared.node.Node.{Node}
use Rattle.forest_store.specs.Forest.{Collection, Forest, collection_at, node_at, node_count, given, live_keys, held_by_page, all_held}
use Rattle.forest_store.specs.Nodes.{members_of, is_spent}
use Rattle.forest_store.specs.Settling.{Handles, buffer_names}
use Rattle.core_state.specs.State.{Client, State}

-- who holds the end, or held it last
abbrev pub holder_of : End → ℕ
holder_of (End.Held client) = client
holder_of (End.InTransit client) = client
holder_of End.Spent = 0

-- the end is in a parcel
abbrev pub is_moving : End → Bool
is_moving (End.InTransit client) = true
is_moving _ = false

-- what the collection was given
abbrev pub buffers_in : State → ℕ → Option Buffers
buffers_in s collection = option_map_or (λ (c : Collection). c.buffers) (collection_at s.forest collection) None

-- the buffers of the collection that are not doomed
abbrev pub to_open_in : State → ℕ → List BufferName
to_open_in s collection = option_map_or
    (λ (c : Collection).
    filter (λ b. not (is_doomed (total s.holds b Strength.Strong) (some_strong_live (members_of c.nodes)))) (buffer_names c))
    (collection_at s.forest collection) []

-- the end of the node, as answers read it
abbrev pub open_end_of : State → Node → OpenEnd
open_end_of s n = record {
  holder = holder_of n.end;
  in_transit = is_moving n.end;
  kind = if n.bound then Kind.Collection else Kind.Token;
  collection = n.collection;
  fault = n.fault;
  constrained = is_some n.constraints;
  weak = n.weak;
  weak_ok = n.weak_ok;
  took = n.took;
  node_trackers = n.trackers;
  buffers = if n.allocated then buffers_in s n.collection else None;
  to_open = if n.allocated then to_open_in s n.collection else [];
}

-- the end of the node, unless it is spent
abbrev pub open_end_in : State → Node → Option OpenEnd
open_end_in s n = if is_spent n.end then None else Some (open_end_of s n)

-- the end of the node with this key, unless it is spent
abbrev pub end_in : State → NodeKey → Option OpenEnd
end_in s key = option_and_then (open_end_in s) (node_at s.forest key)

-- the node that the call names, if it is kept
abbrev pub node_named : State → Call → Option Node
node_named s call = option_and_then (node_at s.forest) (key_of call)

-- the client with this number, if it joined
abbrev pub joined_client : State → ℕ → Option Client
joined_client s client = find (λ (c : Client). c.id == client) s.clients

-- what answers read of the state
abbrev pub readings_of : State → Readings
readings_of s = record {
  events = s.events;
  has_joined = λ client. list_any (λ (c : Client). c.id == client) s.clients;
  is_shut = λ client. option_map_or (λ (c : Client). c.shut) (joined_client s client) false;
  end_of = end_in s;
  waiting = λ client. option_map_or (λ (c : Client). c.waiting) (joined_client s client) [];
  open_of = of s.holds;
  open_total = total s.holds;
  was_given = given s.forest;
  kept_nodes = node_count s.forest;
  kept_collections = length s.forest.collections;
  unfired = length s.trackers.unfired;
}

-- why and where the node with this key failed, if it is kept and did
abbrev pub fault_in : State → NodeKey → Option Fault
fault_in s key = option_map_or (λ (n : Node). n.fault) (node_at s.forest key) None

-- whether the node with this key is live
abbrev pub is_live_in : State → NodeKey → Bool
is_live_in s key = option_map_or (λ (n : Node). not n.gone && not n.released) (node_at s.forest key) false

-- what is seen of the state
abbrev pub views_of : State → Views
views_of s = record {
  live = live_keys s.forest;
  held = held_by_page s.forest;
  fired = s.trackers.fired;
  free = s.pool - sum_by (λ (h : HeldBuffer). h.pages.pages) (all_held s.forest);
}

-- what trackers look at: a node that was forgotten is taken for gone and its unit for allocated, and of a collection that was
-- forgotten no buffer is left, so that none is to be doomed
abbrev pub world_in : Forest → Handles → World
world_in f handles = record {
  gone = λ key. option_map_or (λ (n : Node). n.gone) (node_at f key) true;
  allocated = λ key. option_map_or (λ (n : Node). n.allocated) (node_at f key) true;
  left = λ collection. option_map_or (λ (c : Collection). length c.held) (collection_at f collection) 0;
  doomed = λ buffer. option_map_or
      (λ (c : Collection).
      is_some c.buffers && is_doomed (handles buffer Strength.Strong) (some_strong_live (members_of c.nodes)))
      (collection_at f buffer.collection) false;
}
