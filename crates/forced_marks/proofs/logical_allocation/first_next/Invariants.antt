use Rattle.forced_marks.proofs.Common.{drop, find, has, ◌≡◌}
use Rattle.forced_marks.specs.KeySets.{is_next_by}
use Rattle.forced_marks.proofs.logical_allocation.first_next.Given as goal

-- the first is still to come
abbrev pub invariant-loop-node : goal.invariant-loop-node
invariant-loop-node l = find (is_next_by (has l.allocated) (has l.waiting)) (drop l.node-index l.nodes)
    ≡ find (is_next_by (has l.allocated) (has l.waiting)) l.nodes
