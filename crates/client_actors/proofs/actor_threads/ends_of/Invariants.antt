use Rattle.client_actors.proofs.Common.{All, IsSome, Some, map, vec_len, ◌++◌, ◌+◌, ◌≡◌, ◌≤◌}
use Rattle.std.proofs.Common.{reverse, vec_capacity}
use Rattle.client_actors.proofs.actor_threads.ends_of.Given as goal

-- those that were taken out, and those that are left
abbrev pub invariant-loop-actor : goal.invariant-loop-actor
invariant-loop-actor g l = record {
  all : map Some l.ends.items ++ reverse l.actors.items ≡ map Some l.initial.ends.items ++ reverse l.initial.actors.items;
  some : All (λ a. IsSome a) l.actors.items;
  room : vec_len l.ends + vec_len l.actors ≤ vec_capacity l.ends;
}

abbrev pub decreases-loop-actor : goal.decreases-loop-actor
decreases-loop-actor g l = vec_len l.actors
