use Rattle.forest_store.proofs.Common.{◌≡◌, ◌≤◌, ◌+◌, drop, strong_count, nodes_with, camped, ◌*◌}
use Rattle.forest_store.proofs.tallies.Amounts.{amount_of}
use Rattle.forest_store.proofs.removed_nodes.recount.Given as goal

-- with those that are still to come it is what is found of all
abbrev pub invariant-loop-key : goal.invariant-loop-key
invariant-loop-key l = record {
  strong : l.found.strong + strong_count (nodes_with l.table (drop l.key-index l.keys)) ≡ strong_count (nodes_with l.table l.keys);
  few : l.found.strong ≤ l.key-index;
  reserved : l.found.reserved + amount_of camped (nodes_with l.table (drop l.key-index l.keys))
      ≡ amount_of camped (nodes_with l.table l.keys);
  little : l.found.reserved ≤ 255 * l.key-index;
}
