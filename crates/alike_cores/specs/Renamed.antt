-- Nodes, collections, standings and changes under other names.
use Rattle.std.specs.Prelude.{◌≡◌, ℕ, List, map, Option}
use Rattle.std.specs.Option.{option_map}
use Rattle.sm_names.specs.declared.keys.BufferName.{BufferName}
use Rattle.sm_names.specs.declared.keys.HeldBuffer.{HeldBuffer}
use Rattle.sm_names.specs.declared.keys.NodeKey.{NodeKey}
use Rattle.sm_names.specs.declared.keys.Strength.{Strength}
use Rattle.sm_names.specs.declared.outcomes.Fault.{Fault}
use Rattle.sm_names.specs.Forced.{Standing}
use Rattle.sm_names.specs.Marks.{Mark, Called, Loss, Allocated, Ended}
use Rattle.sm_names.specs.Members.{Member}
use Rattle.sm_names.specs.Sameness.{same_key}
use Rattle.forest_store.specs.declared.change.Change.{Change}
use Rattle.forest_store.specs.declared.node.Node.{Node}
use Rattle.forest_store.specs.Forest.{Collection}
use Rattle.forest_store.specs.Settling.{Handles}

-- no two keys become one
abbrev pub KeepsKeys : (NodeKey → NodeKey) → Type 0
KeepsKeys to = (a b : NodeKey) → same_key (to a) (to b) ≡ same_key a b

-- the fault, with the new key of its origin
abbrev pub fault_renamed : (NodeKey → NodeKey) → Fault → Fault
fault_renamed to f = record f { origin = to f.origin }

-- the node under new keys, in a collection of a new number, without the number of the event of its birth
abbrev pub node_renamed : (NodeKey → NodeKey) → (ℕ → ℕ) → Node → Node
node_renamed to id n = record n {
  key = to n.key;
  parent = option_map to n.parent;
  collection = id n.collection;
  event = 0;
  head = to n.head;
  fault = option_map (fault_renamed to) n.fault;
}

-- what the forced steps read of the node, under new keys
abbrev pub member_renamed : (NodeKey → NodeKey) → Member → Member
member_renamed to m = record m {
  key = to m.key;
  parent = option_map to m.parent;
  above = map to m.above;
  head = to m.head;
}

-- what the forced steps read of a collection, under new keys
abbrev pub standing_renamed : (NodeKey → NodeKey) → Standing → Standing
standing_renamed to s = record s { members = map (member_renamed to) s.members }

-- a forced mark under new keys; an event is no forced mark, and stays
abbrev pub mark_renamed : (NodeKey → NodeKey) → Mark → Mark
mark_renamed to (Loss origin cause) = Loss (to origin) cause
mark_renamed to (Allocated head) = Allocated (to head)
mark_renamed to (Ended top) = Ended (to top)
mark_renamed to (Called client reply call) = Called client reply call

-- the same buffer of the collection under its new number
abbrev pub buffer_renamed : (ℕ → ℕ) → BufferName → BufferName
buffer_renamed id b = record b { collection = id b.collection }

-- a held buffer: its pages stay
abbrev pub held_renamed : (ℕ → ℕ) → HeldBuffer → HeldBuffer
held_renamed id h = record h { buffer = buffer_renamed id h.buffer }

-- the collection under new names
abbrev pub collection_renamed : (NodeKey → NodeKey) → (ℕ → ℕ) → Collection → Collection
collection_renamed to id c = record {
  id = id c.id;
  nodes = map (node_renamed to id) c.nodes;
  buffers = c.buffers;
  held = map (held_renamed id) c.held;
}

-- as many handles are open on each buffer under its new name
abbrev pub CountsAlike : (ℕ → ℕ) → Handles → Handles → Type 0
CountsAlike id before after = (b : BufferName) (strength : Strength) → after (buffer_renamed id b) strength ≡ before b strength

-- a change, without the number of its event
abbrev pub change_renamed : (NodeKey → NodeKey) → Change → Change
change_renamed to (Change.Birth parent attached client event) = Change.Birth (option_map to parent) attached client 0
change_renamed to (Change.Effect key effect) = Change.Effect (to key) effect
change_renamed to (Change.Loss origin cause) = Change.Loss (to origin) cause
change_renamed to Change.Nothing = Change.Nothing
