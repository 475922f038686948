use Rattle.forced_marks.proofs.Common.{drop, find, has, ◌≡◌}
use Rattle.forced_marks.specs.KeySets.{is_deserted_by}
use Rattle.forced_marks.proofs.subtree_end.first_deserted.Given as goal

-- the first is still to come
abbrev pub invariant-loop-node : goal.invariant-loop-node
invariant-loop-node l = find (is_deserted_by (has l.busy)) (drop l.node-index l.nodes)
    ≡ find (is_deserted_by (has l.busy)) l.nodes
