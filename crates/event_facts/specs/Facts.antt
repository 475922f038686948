-- What is told of an event, over the nodes, buffers and handles of a core.
use Rattle.std.specs.Prelude.{ℕ, Bool, false, ◌&&◌, not, nat_lt, if◌then◌else◌, List, [], ◌∷◌, ◌++◌, Option, Some, None, is_none}
use Rattle.std.specs.List.{flat_map, list_any}
use Rattle.std.specs.Option.{option_map_or}
use Rattle.sm_names.specs.declared.keys.BufferName.{BufferName}
use Rattle.sm_names.specs.declared.keys.HeldBuffer.{HeldBuffer}
use Rattle.sm_names.specs.declared.keys.NodeKey.{NodeKey}
use Rattle.sm_names.specs.declared.keys.Strength.{Strength}
use Rattle.sm_names.specs.Sameness.{same_buffer, same_key}
use Rattle.buffer_holds.specs.Counts.{Counts, moving_count, of}
use Rattle.forest_store.specs.declared.node.Node.{Node}
use Rattle.forest_store.specs.Nodes.{node_of}
use Rattle.forest_store.specs.Questions.{is_below, is_live_node}
use Rattle.event_facts.specs.declared.keepers.Holder.{Holder}
use Rattle.event_facts.specs.declared.failure_path.Stop.{Stop}

-- ---- failures and ends

-- why a failure does not propagate above the node with this key
abbrev pub stop_of : List Node → NodeKey → Stop
stop_of nodes key = option_map_or
    (λ (n : Node). option_map_or (λ parent. if n.attached then Stop.AtAttached parent else Stop.AtDispensable parent) n.parent Stop.AtRoot)
    (node_of nodes key) Stop.AtRoot

-- the node is not gone, and is the top one or below it
abbrev pub is_lost_with : List Node → NodeKey → Node → Bool
is_lost_with nodes top n = not n.gone && is_below nodes top n.key

-- the node is not gone, and one of these
abbrev pub is_taken_of : (NodeKey → Bool) → Node → Bool
is_taken_of under n = not n.gone && under n.key

-- the node hangs on this one, and a failure did not come up by it
abbrev pub is_handed : List NodeKey → NodeKey → Node → Bool
is_handed way above n = option_map_or (λ parent. same_key above parent && not (list_any (same_key n.key) way)) n.parent false

-- the same, where a failure came up by these
abbrev pub is_handed_past : (NodeKey → Bool) → NodeKey → Node → Bool
is_handed_past passed above n = option_map_or (λ parent. same_key above parent && not (passed n.key)) n.parent false

-- ---- the holders of buffers

-- the node is live and strong
abbrev pub is_keeper : Node → Bool
is_keeper n = is_live_node n && not n.weak

-- this many handles of the client, or in parcels, if there are some
abbrev pub holders_with : Option ℕ → Strength → ℕ → List Holder
holders_with client strength count = if nat_lt 0 count then record { client = client; strength = strength; count = count } ∷ [] else []

-- the handles of the client on the buffer, strong before weak
abbrev pub client_holds : Counts → BufferName → ℕ → List Holder
client_holds holds buffer client =
    holders_with (Some client) Strength.Strong (of holds client buffer Strength.Strong)
    ++ holders_with (Some client) Strength.Weak (of holds client buffer Strength.Weak)

-- the handles on the buffer, of these clients in their order, and those in parcels last
abbrev pub holders_in : Counts → List ℕ → BufferName → List Holder
holders_in holds clients buffer =
    flat_map (client_holds holds buffer) clients
    ++ (holders_with None Strength.Strong (moving_count holds buffer Strength.Strong) ++ holders_with None Strength.Weak
    (moving_count holds buffer Strength.Weak))

-- ---- buffers

-- the pages are those of this buffer
abbrev pub is_on_buffer : BufferName → HeldBuffer → Bool
is_on_buffer buffer h = same_buffer h.buffer buffer

-- the buffer is not among these, which hold pages later
abbrev pub is_back : List HeldBuffer → HeldBuffer → Bool
is_back later h = not (list_any (is_on_buffer h.buffer) later)

-- ---- allocations

-- the node is in the unit with this head, is live, and has no constraints
abbrev pub is_awaited : NodeKey → Node → Bool
is_awaited head n = same_key n.head head && (is_live_node n && is_none n.constraints)
