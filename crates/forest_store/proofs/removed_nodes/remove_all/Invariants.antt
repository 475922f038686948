use Rattle.forest_store.proofs.Common.{◌≡◌, ◌≤◌, ◌+◌, ◌*◌, drop, take, map, list_any, strong_count}
use Rattle.forest_store.proofs.Common.{nodes_with, camped, is_unkept, gone_by, uncounted_both, Stores}
use Rattle.forest_store.proofs.tallies.Amounts.{amount_of}
use Rattle.forest_store.proofs.removed_nodes.remove_all.Given as goal

-- so far these nodes are removed, and with those that are still to come it is what is found of all
abbrev pub invariant-loop-key : goal.invariant-loop-key
invariant-loop-key l = record {
  strong : l.strong + strong_count (nodes_with l.initial.table (drop l.key-index l.keys))
      ≡ strong_count (nodes_with l.initial.table l.keys);
  few : l.strong ≤ l.key-index;
  reserved : l.reserved + amount_of camped (nodes_with l.initial.table (drop l.key-index l.keys))
      ≡ amount_of camped (nodes_with l.initial.table l.keys);
  little : l.reserved ≤ 255 * l.key-index;
  units : uncounted_both l.initial.table (nodes_with l.initial.table (drop l.key-index l.keys)) l.units.items
      ≡ uncounted_both l.initial.table (nodes_with l.initial.table l.keys) l.initial.units.items;
  stores : Stores l.initial.table l.table (map (gone_by l.going) (nodes_with l.initial.table (take l.key-index l.keys)));
  over : l.over ≡ list_any is_unkept (map (gone_by l.going) (nodes_with l.initial.table (take l.key-index l.keys)));
}
