use Rattle.play_likeness.proofs.Common.{Actor, AreAlikeAll, ahead_of, map, new_id, new_key, new_number, stage_of, take}
use Rattle.play_likeness.proofs.plays.are_alike_ahead.Given as goal

-- so far the actors have the same ahead
abbrev pub invariant-loop-at : goal.invariant-loop-at
invariant-loop-at l = AreAlikeAll (new_key l.names) (new_id l.names) (new_number l.names)
    (map (λ (a : Actor). ahead_of (stage_of a)) (take l.at l.one)) (map (λ (a : Actor). ahead_of (stage_of a)) (take l.at l.other))
