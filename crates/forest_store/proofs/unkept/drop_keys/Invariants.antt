use Rattle.forest_store.proofs.Common.{◌≡◌, length, true, filter, is_left_by, are_apart}
use Rattle.forest_store.proofs.unkept.drop_keys.Given as goal

-- the rest leaves of the keys what all leave of those that there were
abbrev pub invariant-dropping : goal.invariant-dropping
invariant-dropping l = record {
  apart : are_apart l.keys.items ≡ true;
  left : filter (is_left_by l.table l.rest) l.keys.items ≡ filter (is_left_by l.table l.unkept) l.initial.keys.items;
}

-- each key is looked at once
abbrev pub decreases-dropping : goal.decreases-dropping
decreases-dropping l = length l.rest
