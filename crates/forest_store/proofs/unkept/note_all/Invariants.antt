use Rattle.forest_store.proofs.Common.{◌≡◌, length, true, false, List, list_any, NodeKey, unkept_except, nodes_with, AreMore, IsNoting}
use Rattle.forest_store.proofs.unkept.note_all.Given as goal

-- once those of the rest that are unkept are noted, those of all are
abbrev pub invariant-noting : goal.invariant-noting
invariant-noting l = record {
  entry : IsNoting l.initial.entry l.entry;
  all : l.entry.unkept_known ≡ true → (most : List NodeKey) → AreMore l.entry.unkept.items most →
      list_any (unkept_except most) (nodes_with l.table l.rest) ≡ false → list_any (unkept_except most) (nodes_with l.table l.keys) ≡ false;
}

-- each key is looked at once
abbrev pub decreases-noting : goal.decreases-noting
decreases-noting l = length l.rest
