use Rattle.client_vanish.proofs.Common.{Collection, map, top_first, vec_capacity, vec_len, ◌++◌, ◌+◌, ◌≡◌, ◌≤◌}
use Rattle.client_vanish.proofs.stack.stack_collections.Given as goal

-- what is stacked, with what is left, is all
abbrev pub invariant-loop-collection : goal.invariant-loop-collection
invariant-loop-collection g l = record {
  objects : map Collection l.collections.items ++ top_first l.stack.items ≡ map Collection l.initial.collections.items ++ top_first
      l.initial.stack.items;
  len : vec_len l.stack + vec_len l.collections ≡ vec_len l.initial.stack + vec_len l.initial.collections;
  room : vec_capacity l.stack ≡ vec_capacity l.initial.stack;
  kept : vec_capacity l.collections ≡ vec_capacity l.initial.collections;
  fits : vec_len l.stack + vec_len l.collections ≤ vec_capacity l.stack;
}

abbrev pub decreases-loop-collection : goal.decreases-loop-collection
decreases-loop-collection g l = vec_len l.collections
