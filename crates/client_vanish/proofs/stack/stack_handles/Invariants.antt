use Rattle.client_vanish.proofs.Common.{Handle, map, top_first, vec_capacity, vec_len, ◌++◌, ◌+◌, ◌≡◌, ◌≤◌}
use Rattle.client_vanish.proofs.stack.stack_handles.Given as goal

-- what is stacked, with what is left, is all
abbrev pub invariant-loop-handle : goal.invariant-loop-handle
invariant-loop-handle g l = record {
  objects : map Handle l.handles.items ++ top_first l.stack.items ≡ map Handle l.initial.handles.items ++ top_first l.initial.stack.items;
  len : vec_len l.stack + vec_len l.handles ≡ vec_len l.initial.stack + vec_len l.initial.handles;
  room : vec_capacity l.stack ≡ vec_capacity l.initial.stack;
  kept : vec_capacity l.handles ≡ vec_capacity l.initial.handles;
  fits : vec_len l.stack + vec_len l.handles ≤ vec_capacity l.stack;
}

abbrev pub decreases-loop-handle : goal.decreases-loop-handle
decreases-loop-handle g l = vec_len l.handles
