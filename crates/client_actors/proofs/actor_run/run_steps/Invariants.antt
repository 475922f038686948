use Rattle.client_actors.proofs.Common.{ActorInvariant, HasRunTo, IsAware, length, ◌≡◌}
use Rattle.client_actors.proofs.actor_run.run_steps.Given as goal

-- some steps are made, and the others are left
abbrev pub invariant-each_step : goal.invariant-each_step
invariant-each_step g l = record {
  ran : HasRunTo l.playing.clients.now l.playing.most l.steps l.rest l.actor;
  aware : IsAware l.actor;
  sound : ActorInvariant l.actor;
  id : l.actor.client.id ≡ l.initial.actor.client.id;
}

abbrev pub decreases-each_step : goal.decreases-each_step
decreases-each_step g l = length l.rest
