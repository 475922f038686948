use Rattle.client_actors.proofs.Common.{All, CanStart, id_there, map, vec_len, ◌≡◌}
use Rattle.std.proofs.Common.{vec_capacity}
use Rattle.client_actors.proofs.actor_threads.join_all.Given as goal

-- the clients that joined are ready
abbrev pub invariant-loop : goal.invariant-loop
invariant-loop g l = record {
  ready : All CanStart l.actors.items;
  ids : l.clients.items ≡ map id_there l.actors.items;
  len : vec_len l.actors ≡ l.counter;
  clients : vec_capacity l.clients ≡ vec_capacity l.initial.clients;
  actors : vec_capacity l.actors ≡ vec_capacity l.initial.actors;
}
