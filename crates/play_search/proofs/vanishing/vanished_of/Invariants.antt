use Rattle.play_search.proofs.Common.{map, stage_of, vanished_first, ◌≡◌}
use Rattle.play_search.proofs.vanishing.vanished_of.Given as goal

-- so far those of the first actors
abbrev pub invariant-actors : goal.invariant-actors
invariant-actors l = l.places.items ≡ vanished_first l.at_end l.plans (map stage_of l.actors) l.place
