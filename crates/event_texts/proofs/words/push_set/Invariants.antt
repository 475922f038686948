use Rattle.event_texts.proofs.Common.{Keeps, Names, flat_map, member_text, ◌++◌, ◌≡◌}
use Rattle.sm_names.specs.Handles.{names as names_of}
use Rattle.event_texts.proofs.words.push_set.Given as goal

-- the buffers below the index
abbrev pub invariant-loop-index : goal.invariant-loop-index
invariant-loop-index l = (names : Names) → Keeps l.tables names →
    l.text.items ≡ l.initial.text.items ++ flat_map (member_text names l.set) (names_of l.collection l.index)
