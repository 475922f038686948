use Rattle.play_likeness.proofs.Common.{map, new_id, new_key, object_renamed, take, ◌≡◌}
use Rattle.play_likeness.proofs.objects.are_new_objects.Given as goal

-- so far the objects are the ones
abbrev pub invariant-loop-at : goal.invariant-loop-at
invariant-loop-at l = take l.at l.other ≡ map (object_renamed (new_key l.names) (new_id l.names)) (take l.at l.one)
