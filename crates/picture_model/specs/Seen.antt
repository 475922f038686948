-- What a tree shows of a core.
use Rattle.std.specs.Prelude.{ℕ, ◌≡◌, true, List, [], map, Option, None, Some}
use Rattle.std.specs.List.{filter}
use Rattle.std.specs.Option.{option_map, option_map_or}
use Rattle.sm_names.specs.declared.call_parts.Object.{Object}
use Rattle.sm_names.specs.declared.keys.BufferName.{BufferName}
use Rattle.sm_names.specs.declared.keys.HeldBuffer.{HeldBuffer}
use Rattle.sm_names.specs.declared.keys.NodeKey.{NodeKey}
use Rattle.sm_names.specs.declared.messages.Call.{Call}
use Rattle.sm_names.specs.CallRows.{parts_of}
use Rattle.forest_store.specs.declared.node.End.{End}
use Rattle.forest_store.specs.declared.node.Node.{Node}
use Rattle.forest_store.specs.Forest.{Collection, collection_at, node_at}
use Rattle.core_state.specs.State.{State}
use Rattle.event_facts.specs.Facts.{is_keeper}
use Rattle.picture_model.specs.declared.picture.Tree.{Tree}

-- the node as the core has it; one that the core forgot stands as it did, gone, and its end spent
abbrev pub seen_in : State → Node → Node
seen_in s n = option_map_or (λ (present : Node). present) (node_at s.forest n.key) (record n { gone = true; end = End.Spent })

-- the collection's buffers with pages
abbrev pub held_of_collection : State → ℕ → List HeldBuffer
held_of_collection s id = option_map_or (λ (c : Collection). c.held) (collection_at s.forest id) []

-- the tree shows nodes that are known of as the core has them, those of them that are live and strong, and the collection's
-- buffers with pages
pub record IsTree (s : State) (tree : Tree) : Type 0 where
  pub known : List Node
  pub nodes : tree.nodes.items ≡ map (seen_in s) known
  pub strong : tree.strong.items ≡ map (λ (n : Node). n.key) (filter is_keeper tree.nodes.items)
  pub held : tree.held.items ≡ held_of_collection s tree.id

-- the collection of the node that is named, if it is kept, or of the buffer
abbrev pub collection_named : State → Object NodeKey BufferName → Option ℕ
collection_named s Object.Nothing = None
collection_named s (Object.Node key) = option_map (λ (n : Node). n.collection) (node_at s.forest key)
collection_named s (Object.Buffer buffer) = Some buffer.collection

-- the collection of the node or the buffer that the call is made on
abbrev pub named_in : State → Call → Option ℕ
named_in s call = collection_named s (parts_of call).object
