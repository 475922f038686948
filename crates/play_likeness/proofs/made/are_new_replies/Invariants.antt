use Rattle.play_likeness.proofs.Common.{made_renamed, map, new_id, new_key, new_number, take, ◌≡◌}
use Rattle.play_likeness.proofs.made.are_new_replies.Given as goal

-- so far the replies are the ones
abbrev pub invariant-loop-at : goal.invariant-loop-at
invariant-loop-at l = take l.at l.other ≡ map (made_renamed (new_key l.names) (new_id l.names) (new_number l.names)) (take l.at l.one)
