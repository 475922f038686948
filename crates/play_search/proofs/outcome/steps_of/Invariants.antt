use Rattle.play_search.proofs.Common.{map, stage_of, take, ◌≡◌}
use Rattle.play_search.specs.Searches.{places_of, steps_made}
use Rattle.play_search.proofs.outcome.steps_of.Given as goal

-- so far the steps of these actors
abbrev pub invariant-actors : goal.invariant-actors
invariant-actors l = map places_of l.steps.items ≡ map steps_made (map stage_of (take l.actor-index l.actors))
