use Rattle.forest_steps.proofs.Common.{◌≡◌, map, nat_lt, list_any, total, range_with_len, BufferName, Strength, names, name_of, ◌-◌}
use Rattle.forest_steps.proofs.dropped.is_any_open.Given as goal

-- one that is open is still to come
abbrev pub invariant-loop-index : goal.invariant-loop-index
invariant-loop-index l =
    list_any (λ (b : BufferName). nat_lt 0 (total l.holds b Strength.Strong))
    (map (name_of l.id) (range_with_len l.index (l.count - l.index)))
    ≡ list_any (λ (b : BufferName). nat_lt 0 (total l.holds b Strength.Strong)) (names l.id l.count)
