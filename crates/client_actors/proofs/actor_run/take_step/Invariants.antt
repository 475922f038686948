use Rattle.client_actors.proofs.Common.{ActorInvariant, IsAware, IsWaiting, ◌≡◌}
use Rattle.client_actors.proofs.actor_run.take_step.Given as goal

-- nothing was there so far
abbrev pub invariant-loop-tries : goal.invariant-loop-tries
invariant-loop-tries g l = record {
  waits : IsWaiting l.playing.clients.now l.step l.tries l.initial.actor l.actor;
  aware : IsAware l.actor;
  sound : ActorInvariant l.actor;
  id : l.actor.client.id ≡ l.initial.actor.client.id;
}
