use Rattle.actor_plays.proofs.Common.{stages_of, ◌≡◌}
use Rattle.actor_plays.specs.Endings.{maker_first}
use Rattle.actor_plays.proofs.play.Play.maker.Given as goal

-- so far the step of the first of these actors
abbrev pub invariant-actors : goal.invariant-actors
invariant-actors l = l.maker ≡ maker_first (stages_of l.self) l.key l.actor
