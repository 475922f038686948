use Rattle.client_vanish.proofs.Common.{CollectsMany, List, Reply, length, map, object_of, vec_capacity, vec_len, ◌+◌, ◌≡◌, ◌≤◌}
use Rattle.client_vanish.proofs.vanishing.collect_all.Given as goal

-- what was collected so far
abbrev pub invariant-loop-left : goal.invariant-loop-left
invariant-loop-left g l = record {
  made : (told : List Reply) × CollectsMany l.initial.client l.client told (map object_of l.ends.items) (map object_of l.handles.items) ×
      (length told + l.left ≡ l.initial.left);
  ends : vec_len l.ends + l.left ≤ vec_capacity l.ends;
  handles : vec_len l.handles + l.left ≤ vec_capacity l.handles;
  few_ends : vec_len l.ends + l.left ≤ l.initial.left;
  few_handles : vec_len l.handles + l.left ≤ l.initial.left;
}

abbrev pub decreases-loop-left : goal.decreases-loop-left
decreases-loop-left g l = l.left
