use Rattle.client_vanish.proofs.Common.{Token, map, top_first, vec_capacity, vec_len, ◌++◌, ◌+◌, ◌≡◌, ◌≤◌}
use Rattle.client_vanish.proofs.stack.stack_tokens.Given as goal

-- what is stacked, with what is left, is all
abbrev pub invariant-loop-token : goal.invariant-loop-token
invariant-loop-token g l = record {
  objects : map Token l.tokens.items ++ top_first l.stack.items ≡ map Token l.initial.tokens.items ++ top_first l.initial.stack.items;
  len : vec_len l.stack + vec_len l.tokens ≡ vec_len l.initial.stack + vec_len l.initial.tokens;
  room : vec_capacity l.stack ≡ vec_capacity l.initial.stack;
  kept : vec_capacity l.tokens ≡ vec_capacity l.initial.tokens;
  fits : vec_len l.stack + vec_len l.tokens ≤ vec_capacity l.stack;
}

abbrev pub decreases-loop-token : goal.decreases-loop-token
decreases-loop-token g l = vec_len l.tokens
