use Rattle.forced_marks.proofs.Common.{drop, has, lost, map, take, ◌++◌, ◌≡◌}
use Rattle.forced_marks.proofs.losses.fail_all.Given as goal

-- those so far failed that are taken
abbrev pub invariant-loop-node : goal.invariant-loop-node
invariant-loop-node l = l.nodes ≡ map (lost (λ n. has l.taken n.key) l.fault) (take l.node-index l.fn.nodes)
    ++ drop l.node-index l.fn.nodes
