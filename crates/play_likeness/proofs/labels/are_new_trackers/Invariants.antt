use Rattle.play_likeness.proofs.Common.{In, known, new_number, option_map, take, ℕ, ◌≡◌}
use Rattle.play_likeness.proofs.labels.are_new_trackers.Given as goal

-- so far each label stands for the same
abbrev pub invariant-loop-label : goal.invariant-loop-label
invariant-loop-label l = (label : ℕ) → In label (take l.label-index l.labels) →
    (known l.other).trackers label ≡ option_map (new_number l.names) ((known l.one).trackers label)
