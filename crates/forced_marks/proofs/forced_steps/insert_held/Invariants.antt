use Rattle.forced_marks.proofs.Common.{drop, laid, ◌++◌, ◌≡◌}
use Rattle.forced_marks.proofs.forced_steps.insert_held.Given as goal

-- those so far and those still to come make the whole
abbrev pub invariant-loop-start : goal.invariant-loop-start
invariant-loop-start l = record {
  laid_so_far : l.held.items ++ laid l.collection l.pages l.index (drop l.start-index l.starts)
      ≡ laid l.collection l.pages 0 l.starts;
  index : l.index ≡ l.start-index;
}
