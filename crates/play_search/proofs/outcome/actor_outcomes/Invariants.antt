use Rattle.play_search.proofs.Common.{end_of, map, position_of, stage_of, take, ◌≡◌}
use Rattle.actor_plays.specs.Endings.{end_in}
use Rattle.play_search.proofs.outcome.actor_outcomes.Given as goal

-- so far what came of these actors
abbrev pub invariant-actors : goal.invariant-actors
invariant-actors l = map end_of l.outcomes.items ≡ map (end_in (position_of l.play)) (map stage_of (take l.actor-index l.actors))
