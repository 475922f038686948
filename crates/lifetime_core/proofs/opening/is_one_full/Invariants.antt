use Rattle.lifetime_core.proofs.Common.{is_at_limit, kept_from, list_any, readings_of, to_open_in, ◌≡◌}
use Rattle.lifetime_core.proofs.opening.is_one_full.Given as goal

-- one that is full is still to come
abbrev pub invariant-loop-index : goal.invariant-loop-index
invariant-loop-index l =
    list_any (is_at_limit l.core.limits (readings_of l.core) l.strength) (kept_from l.core l.collection l.strong_live l.index l.index-end)
    ≡ list_any (is_at_limit l.core.limits (readings_of l.core) l.strength) (to_open_in l.core l.collection)
