use Rattle.event_texts.proofs.Common.{Keeps, Names, flat_map, held_text, take, ◌++◌, ◌≡◌}
use Rattle.event_texts.proofs.allocations.push_each_held.Given as goal

-- those so far
abbrev pub invariant-loop-buffer : goal.invariant-loop-buffer
invariant-loop-buffer l = (names : Names) → Keeps l.tables names →
    l.text.items ≡ l.initial.text.items ++ flat_map (held_text names) (take l.buffer-index l.held)
