use Rattle.event_texts.proofs.Common.{Keeps, Names, flat_map, handed_by, take, values_at, ◌++◌, ◌≡◌}
use Rattle.event_texts.proofs.losses.push_handings.Given as goal

-- those so far
abbrev pub invariant-loop-above : goal.invariant-loop-above
invariant-loop-above l = (names : Names) → Keeps l.tables names →
    l.text.items ≡ l.initial.text.items ++ flat_map (handed_by names (values_at l.rows)) (take l.above-index l.taken)
