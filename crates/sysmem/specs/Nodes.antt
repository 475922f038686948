-- What is written for a node.
use Rattle.std.specs.Prelude.{ℕ, ◌+◌, Bool, true, false, List, [], if◌then◌else◌, is_some}
use Rattle.std.specs.Option.{option_map_or, unwrap_or}
use Rattle.sm_names.specs.declared.keys.BufferName.{BufferName}
use Rattle.sm_names.specs.declared.keys.HeldBuffer.{HeldBuffer}
use Rattle.sm_names.specs.declared.keys.NodeKey.{NodeKey}
use Rattle.sm_names.specs.declared.outcomes.Fault.{Fault}
use Rattle.sm_names.specs.Demands.{Demand}
use Rattle.forest_store.specs.declared.node.End.{End}
use Rattle.forest_store.specs.declared.node.Node.{Node}
use Rattle.forest_store.specs.Forest.{Collection, collection_at}
use Rattle.core_state.specs.State.{State}
use Rattle.sysmem.specs.declared.nodes.NodeWords.{NodeWords}
use Rattle.sysmem.specs.Encodings.{key_words}
use Rattle.sysmem.specs.Words.{cause_number}

-- the buffer with this collection and index
abbrev pub buffer_at : ℕ → ℕ → BufferName
buffer_at collection index = record { collection = collection; index = index }

-- the buffers of the collection that hold pages, by index
abbrev pub held_in : State → ℕ → List HeldBuffer
held_in s collection = option_map_or (λ (c : Collection). c.held) (collection_at s.forest collection) []

-- the weight, if the flag is set
abbrev pub flag : Bool → ℕ → ℕ
flag set weight = if set then weight else 0

-- the end is in a parcel
abbrev pub is_in_transit : End → Bool
is_in_transit (End.Held client) = false
is_in_transit (End.InTransit client) = true
is_in_transit End.Spent = false

-- the end is spent
abbrev pub is_end_spent : End → Bool
is_end_spent (End.Held client) = false
is_end_spent (End.InTransit client) = false
is_end_spent End.Spent = true

-- the client that holds the end or gave it away, or 0
abbrev pub holder_number : End → ℕ
holder_number (End.Held client) = client
holder_number (End.InTransit client) = client
holder_number End.Spent = 0

-- the properties of the node, one bit each
abbrev pub flags_of : Node → ℕ
flags_of n =
    ((((((flag n.attached 1 + flag n.allocated 2) + flag n.gone 4) + flag (is_some n.fault) 8) + flag n.released 16) + flag
    n.dispensable 32)
    + (((((flag n.weak 64 + flag n.weak_ok 128) + flag (is_some n.constraints) 256) + flag n.bound 512) + flag (is_in_transit n.end) 1024)
    + flag (is_end_spent n.end) 2048))

-- a key that is told where there is none
abbrev pub nobody : NodeKey
nobody = record { slot = 0; generation = 0 }

-- the node; a root is told as its own parent
abbrev pub node_words : Node → NodeWords
node_words n = record {
  key = key_words n.key;
  parent = key_words (unwrap_or n.parent n.key);
  head = key_words n.head;
  collection = n.collection;
  event = n.event;
  holder = holder_number n.end;
  flags = flags_of n;
  cause = option_map_or (λ (f : Fault). cause_number f.cause) n.fault 0;
  origin = key_words (option_map_or (λ (f : Fault). f.origin) n.fault nobody);
  camping = option_map_or (λ (d : Demand). d.camping) n.constraints 0;
  at_least = option_map_or (λ (d : Demand). d.at_least) n.constraints 0;
  size = option_map_or (λ (d : Demand). d.size) n.constraints 0;
}
