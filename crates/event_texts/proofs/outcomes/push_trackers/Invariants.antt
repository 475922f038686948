use Rattle.event_texts.proofs.Common.{Keeps, Names, flat_map, take, tracker_text, ◌++◌, ◌≡◌}
use Rattle.event_texts.proofs.outcomes.push_trackers.Given as goal

-- those so far
abbrev pub invariant-loop-firing : goal.invariant-loop-firing
invariant-loop-firing l = (names : Names) → Keeps l.tables names →
    l.text.items ≡ l.initial.text.items ++ flat_map (tracker_text names) (take l.firing-index l.fired)
