use Rattle.play_likeness.proofs.Common.{map, new_id, new_key, object_renamed, option_map, take, ◌≡◌}
use Rattle.play_likeness.proofs.objects.are_new_slots.Given as goal

-- so far what lies in the slots is the same
abbrev pub invariant-loop-at : goal.invariant-loop-at
invariant-loop-at l = take l.at l.other ≡ map (option_map (object_renamed (new_key l.names) (new_id l.names))) (take l.at l.one)
