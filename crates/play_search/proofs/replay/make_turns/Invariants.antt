use Rattle.play_search.proofs.Common.{IsOnWay, IsPlay, take, true, ◌++◌, ◌≡◌}
use Rattle.play_search.specs.Searches.{IsTold}
use Rattle.play_search.proofs.replay.make_turns.Given as goal

-- so many of the turns are made
abbrev pub invariant-turns : goal.invariant-turns
invariant-turns l = record {
  play : IsPlay l.ground.plans.now l.play;
  way : l.tells ≡ true → IsOnWay l.ground.plans.now l.ground.vanishing l.ground.setting l.play;
  turns : l.play.turns.items ≡ l.fn.play.turns.items ++ take l.turn-index l.turns;
  told : l.tells ≡ true → IsTold l.fn.play → IsTold l.play;
}
