use Rattle.play_search.proofs.Common.{IsFound}
use Rattle.std.proofs.Common.{All}
use Rattle.play_search.proofs.exploring.found_all.Given as goal

-- so far each has its play
abbrev pub invariant-goals : goal.invariant-goals
invariant-goals l = All (IsFound l.ground.plans.now l.ground.vanishing l.ground.setting) l.all.items
