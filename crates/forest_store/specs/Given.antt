-- Nodes that have buffers, of a collection that was given some. No public clause of `alloc_event` cites this module.
use Rattle.std.specs.Prelude.{◌≡◌, false, List, None, map}
use Rattle.std.specs.List.{AllByRecursion, list_any}
use Rattle.node_table.specs.Table.{Table}
use Rattle.forest_store.specs.declared.node.Node.{Node}
use Rattle.forest_store.specs.Forest.{Collection}
use Rattle.forest_store.specs.CollectionRows.{CollectionRow, collection_in}
use Rattle.forest_store.specs.Questions.{has_buffers}

-- a node of it has buffers only if it was given some
abbrev pub IsServedByGiven : Collection → Type 0
IsServedByGiven c = c.buffers ≡ None → list_any has_buffers c.nodes ≡ false

-- so of each collection
abbrev pub AreServedByGiven : List Collection → Type 0
AreServedByGiven cs = AllByRecursion IsServedByGiven cs

-- and of each that the rows show
abbrev pub HaveGiven : Table Node → List CollectionRow → Type 0
HaveGiven t ss = AreServedByGiven (map (collection_in t) ss)
