-- What is copied out of a forest.
use Rattle.forest_store.specs.declared.snapshot.Snapshot.{Snapshot}
use Rattle.forest_store.specs.Forest.{Collection}

-- the collection that was copied
abbrev pub collection_of : Snapshot → Collection
collection_of s = record { id = s.id; nodes = s.nodes.items; buffers = s.buffers; held = s.held.items }
