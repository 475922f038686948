use Rattle.forced_marks.proofs.Common.{drop, given_buffers, map, take, ◌++◌, ◌≡◌}
use Rattle.forced_marks.proofs.allocation.allocate.Given as goal

-- those so far that are in the unit are allocated
abbrev pub invariant-loop-node : goal.invariant-loop-node
invariant-loop-node l = l.nodes
    ≡ map (given_buffers l.head) (take l.node-index l.fn.nodes) ++ drop l.node-index l.fn.nodes
