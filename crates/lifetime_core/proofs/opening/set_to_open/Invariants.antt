use Rattle.lifetime_core.proofs.Common.{kept_from, set_of, to_open_in, ◌+◌, ◌<◌, ◌^◌, ◌≡◌}
use Rattle.lifetime_core.proofs.opening.set_to_open.Given as goal

-- the bits of those before, beside those that are still to come
abbrev pub invariant-loop-index : goal.invariant-loop-index
invariant-loop-index l = record {
  all : l.set + set_of (kept_from l.core l.collection l.strong_live l.index l.index-end) ≡ set_of (to_open_in l.core l.collection);
  small : l.set < 2 ^ l.index;
}
