-- What a table ends as, where a `&mut` to one of its nodes is returned.
use Rattle.std.specs.Prelude.{Option, None, option_map, slice_index_or, slice_set}
use Rattle.std.specs.Borrow.{Lends, LendsIf, Fml, RattleType, MutBor}
use Rattle.sm_names.specs.declared.keys.NodeKey.{NodeKey}
use Rattle.node_table.specs.Table.{Table}
use Rattle.node_table.specs.Changes.{with_node}
use Rattle.node_table.specs.contracts.table.NodeTable.{the_row}
use Rattle.node_table.specs.contracts.slot.SlotEntry.{the_row as entry_row}
use Rattle.node_table.specs.contracts.slot.Slot.{the_row as slot_row}
use Rattle.node_table.specs.declared.slot.SlotEntry.{SlotEntry}
use Rattle.node_table.specs.declared.slot.Slot.{Slot}
use Rattle.node_table.specs.declared.slot.Slot.TheVariants.{Taken}

module _ (N : RattleType) (s : MutBor (Slot N.Denot)) where
  -- once the borrow r ends, the slot is taken by the last entry written through r
  abbrev pub lends_entry : MutBor (SlotEntry N.Denot) → Fml
  lends_entry r = Lends (slot_row N) (entry_row N) s r Taken

-- the table where the slot of a key has this node
abbrev pub table_with_node : {N : Type 0} → Table N → NodeKey → N → Table N
table_with_node t key node =
    record t { rows = slice_set t.rows key.slot (option_map (with_node node) (slice_index_or t.rows key.slot None)) }

module _ (N : RattleType) (t : MutBor (Table N.Denot)) (key : NodeKey) where
  -- once the borrow r ends, the key has the last node written through r
  abbrev pub lends_node : MutBor N.Denot → Fml
  lends_node r = Lends (the_row N) N t r (table_with_node t.now key)

  -- the same where r is a reference, and at `None` the table stays as it is
  abbrev pub lends_found : Option (MutBor N.Denot) → Fml
  lends_found r = LendsIf (the_row N) N t r (table_with_node t.now key) t.now
