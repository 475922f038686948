use Rattle.actor_plays.proofs.Common.{HavePassed, IfSome, IsPlay, slice_get, stages_of, ◌≡◌, ◌≤◌}
use Rattle.actor_plays.proofs.play.Play.pass.Given as goal

-- so many steps are behind the actor, and only what it knows of its steps has changed
abbrev pub invariant-passing : goal.invariant-passing
invariant-passing l = record {
  play : IsPlay l.plans l.self;
  passes : HavePassed l.plans l.fn.self l.self;
  behind : IfSome (slice_get (stages_of l.self) l.actor) (λ stage. l.behind ≤ stage.at);
  rest : l.self ≡ record l.fn.self { actors = l.self.actors };
}
