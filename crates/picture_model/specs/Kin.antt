-- The nodes of a tree by their keys.
use Rattle.std.specs.Prelude.{◌≡◌, List}
use Rattle.std.specs.List.{filter, list_any}
use Rattle.sm_names.specs.declared.keys.NodeKey.{NodeKey}
use Rattle.forest_store.specs.declared.node.Node.{Node}
use Rattle.forest_store.specs.Nodes.{node_of}
use Rattle.forced_marks.specs.declared.key_sets.KeySet.{KeySet}
use Rattle.forced_marks.specs.KeySets.{has}
use Rattle.event_facts.specs.declared.key_maps.KeyMap.{KeyMap}
use Rattle.event_facts.specs.declared.key_maps.KeyRows.{KeyRows}
use Rattle.event_facts.specs.KeyMaps.{values_at, value_at}
use Rattle.picture_model.specs.Travels.{is_child_of}

-- each of these nodes is found by its key
abbrev pub FindsNodes : KeyMap Node → List Node → Type 0
FindsNodes map nodes = (key : NodeKey) → value_at map key ≡ node_of nodes key

-- the children of each node are found among these by its key
abbrev pub FindsChildren : KeyRows Node → List Node → Type 0
FindsChildren rows nodes = (above : NodeKey) → values_at rows above ≡ filter (is_child_of above) nodes

-- the keys are those on which some of these nodes hang
abbrev pub AreParents : KeySet → List Node → Type 0
AreParents set nodes = (key : NodeKey) → has set key ≡ list_any (is_child_of key) nodes
