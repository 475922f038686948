use Rattle.std.proofs.Common.{◌≡◌, ◌+◌, vec_len, vec_capacity}
use Rattle.std.specs.List.{All}
use Rattle.client_actors.specs.ActorEnds.{IsIdle, CanStart}
use Rattle.client_actors.proofs.actor_threads.clients_of.Given as goal

-- the remaining clients are ready, and the others idle
abbrev pub invariant-loop-actor : goal.invariant-loop-actor
invariant-loop-actor g l = record {
  ready : All CanStart l.actors.items;
  idle : All IsIdle l.parts.items;
  len : vec_len l.parts + vec_len l.actors ≡ vec_len l.initial.parts + vec_len l.initial.actors;
  room : vec_capacity l.parts ≡ vec_capacity l.initial.parts;
}

abbrev pub decreases-loop-actor : goal.decreases-loop-actor
decreases-loop-actor g l = vec_len l.actors
