use Rattle.forced_marks.proofs.Common.{BufferName, Strength, list_any, map, names, nat_lt, range_with_len, total, ◌-◌, ◌≡◌}
use Rattle.forest_store.specs.Scenes.{name_of}
use Rattle.forced_marks.proofs.next_step.is_any_open.Given as goal

-- one that is open is still to come
abbrev pub invariant-loop-index : goal.invariant-loop-index
invariant-loop-index l =
    list_any (λ (b : BufferName). nat_lt 0 (total l.holds b Strength.Strong))
    (map (name_of l.id) (range_with_len l.index (l.count - l.index)))
    ≡ list_any (λ (b : BufferName). nat_lt 0 (total l.holds b Strength.Strong)) (names l.id l.count)
