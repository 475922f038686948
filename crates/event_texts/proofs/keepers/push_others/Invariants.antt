use Rattle.event_texts.proofs.Common.{Calls, Names, flat_map, next_holder, take, ◌++◌, ◌≡◌}
use Rattle.event_texts.proofs.keepers.push_others.Given as goal

abbrev pub invariant-loop-holder : goal.invariant-loop-holder
invariant-loop-holder l = (names : Names) → Calls l.labels names →
    l.text.items ≡ l.initial.text.items ++ flat_map (next_holder names) (take l.holder-index l.others)
