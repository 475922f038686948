use Rattle.client_vanish.proofs.Common.{map, object_of, top_first, vec_capacity, vec_len, ◌++◌, ◌+◌, ◌≡◌, ◌≤◌}
use Rattle.client_vanish.proofs.stack.stack_ends.Given as goal

-- what is stacked, with what is left, is all
abbrev pub invariant-loop-end : goal.invariant-loop-end
invariant-loop-end g l = record {
  objects : map object_of l.ends.items ++ top_first l.stack.items ≡ map object_of l.initial.ends.items ++ top_first l.initial.stack.items;
  len : vec_len l.stack + vec_len l.ends ≡ vec_len l.initial.stack + vec_len l.initial.ends;
  room : vec_capacity l.stack ≡ vec_capacity l.initial.stack;
  kept : vec_capacity l.ends ≡ vec_capacity l.initial.ends;
  fits : vec_len l.stack + vec_len l.ends ≤ vec_capacity l.stack;
}

abbrev pub decreases-loop-end : goal.decreases-loop-end
decreases-loop-end g l = vec_len l.ends
