use Rattle.play_likeness.proofs.Common.{In, known, new_id, new_key, option_map, place_renamed, take, ℕ, ◌≡◌}
use Rattle.play_likeness.proofs.labels.are_new_places.Given as goal

-- so far each label stands for the same
abbrev pub invariant-loop-label : goal.invariant-loop-label
invariant-loop-label l = (label : ℕ) → In label (take l.label-index l.labels) →
    (known l.other).nodes label ≡ option_map (place_renamed (new_key l.names) (new_id l.names)) ((known l.one).nodes label)
