use Rattle.client_vanish.proofs.Common.{HasRoomFor, both, held_in, sorted, top_first, vec_len, ◌≡◌}
use Rattle.client_vanish.proofs.stack.put_all.Given as goal

-- what is in its list, with what is left, is all
abbrev pub invariant-loop-object : goal.invariant-loop-object
invariant-loop-object g l = record {
  all : both (held_in l.held) (sorted (top_first l.stack.items)) ≡ both (held_in l.initial.held) (sorted (top_first l.initial.stack.items));
  room : HasRoomFor l.held (top_first l.stack.items);
}

abbrev pub decreases-loop-object : goal.decreases-loop-object
decreases-loop-object g l = vec_len l.stack
