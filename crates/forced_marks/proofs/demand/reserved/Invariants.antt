use Rattle.forced_marks.proofs.Common.{Demand, MAX_CAMPING, demands_of, drop, fold, sum_by, ◌*◌, ◌+◌, ◌≡◌, ◌≤◌}
use Rattle.forest_store.specs.Questions.{has_buffers}
use Rattle.forced_marks.proofs.demand.reserved.Given as goal

-- with those that are still to come it is what all camp on
abbrev pub invariant-loop-node : goal.invariant-loop-node
invariant-loop-node l = record {
  camping : fold (λ a (d : Demand). a + d.camping) l.camping (demands_of has_buffers (drop l.node-index l.nodes))
      ≡ sum_by (λ (d : Demand). d.camping) (demands_of has_buffers l.nodes);
  few : l.camping ≤ MAX_CAMPING * l.node-index;
}
