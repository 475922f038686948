use Rattle.play_search.proofs.Common.{HaveNoTurn}
use Rattle.play_search.proofs.replay.have_no_turn.Given as goal

-- so many actors make no turn
abbrev pub invariant-actors : goal.invariant-actors
invariant-actors l = HaveNoTurn l.ground.plans.now l.ground.vanishing l.ground.setting l.turns l.actor
