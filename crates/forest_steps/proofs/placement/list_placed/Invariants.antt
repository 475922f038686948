use Rattle.forest_steps.proofs.Common.{◌≡◌, ◌≤◌, ◌+◌, ◌++◌, length, take, drop, laid, vec_capacity}
use Rattle.forest_steps.proofs.placement.list_placed.Given as goal

-- those so far and those still to come make the whole
abbrev pub invariant-loop-start : goal.invariant-loop-start
invariant-loop-start l = record {
  laid_so_far : l.held.items ++ laid l.collection l.pages l.index (drop l.start-index l.starts)
      ≡ laid l.collection l.pages 0 l.starts;
  index : l.index ≡ l.start-index;
  as_many : length l.held.items ≡ l.start-index;
  room : length l.starts + length l.others ≤ vec_capacity l.held;
}

abbrev pub invariant-loop-buffer : goal.invariant-loop-buffer
invariant-loop-buffer l = record {
  so_far : l.held.items ≡ laid l.collection l.pages 0 l.starts ++ take l.buffer-index l.others;
  as_many : length l.held.items ≡ length l.starts + l.buffer-index;
  room : length l.starts + length l.others ≤ vec_capacity l.held;
}
