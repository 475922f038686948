use Rattle.client_vanish.proofs.Common.{All, GivesUpSome, HasRoomFor, held_in, owner_of, top_first, vec_len, ◌≡◌}
use Rattle.client_vanish.proofs.vanishing.give_up_all.Given as goal

-- it gave up the first ones
abbrev pub invariant-loop-object : goal.invariant-loop-object
invariant-loop-object g l = record {
  parts : GivesUpSome l.initial.client l.client (top_first l.initial.stack.items) (top_first l.stack.items) (held_in l.kept);
  owner : All (λ t. owner_of t ≡ l.client.id) (top_first l.stack.items);
  room : HasRoomFor l.kept (top_first l.stack.items);
}

abbrev pub decreases-loop-object : goal.decreases-loop-object
decreases-loop-object g l = vec_len l.stack
