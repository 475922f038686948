use Rattle.event_texts.proofs.Common.{Keeps, Names, flat_map, take, waiting_label, ◌++◌, ◌≡◌}
use Rattle.event_texts.proofs.summary.push_trackers.Given as goal

-- those so far
abbrev pub invariant-loop-tracker : goal.invariant-loop-tracker
invariant-loop-tracker l = (names : Names) → Keeps l.tables names →
    l.text.items ≡ l.initial.text.items ++ flat_map (waiting_label names) (take l.tracker-index l.trackers)
