use Rattle.actor_plays.proofs.Common.{HasRest, HavePassed, IsPlay, ℕ, ◌<◌, ◌≡◌}
use Rattle.actor_plays.proofs.play.Play.pass_all.Given as goal

-- the first actors rest, and only what they know of their steps has changed
abbrev pub invariant-actors : goal.invariant-actors
invariant-actors l = record {
  play : IsPlay l.plans l.self;
  passes : HavePassed l.plans l.fn.self l.self;
  rests : (k : ℕ) → k < l.actor → HasRest l.plans l.self k;
  rest : l.self ≡ record l.fn.self { actors = l.self.actors };
}
