use Rattle.forced_marks.proofs.Common.{Demand, MAX_CAMPING, demands_of, drop, fold, sum_by, ◌*◌, ◌+◌, ◌≡◌, ◌≤◌}
use Rattle.std.proofs.Common.{max}
use Rattle.sm_names.specs.declared.rules.TheConstants.{MAX_SIZE}
use Rattle.sm_names.specs.Members.{greatest}
use Rattle.forest_store.specs.Questions.{is_in_unit}
use Rattle.forced_marks.proofs.demand.total_demand.Given as goal

-- with those that are still to come it is what all ask for
abbrev pub invariant-loop-node : goal.invariant-loop-node
invariant-loop-node l = record {
  camping : fold (λ a (d : Demand). a + d.camping) l.asks.camping
      (demands_of (is_in_unit l.head) (drop l.node-index l.nodes))
      ≡ sum_by (λ (d : Demand). d.camping) (demands_of (is_in_unit l.head) l.nodes);
  at_least : fold (λ n (d : Demand). max n d.at_least) l.asks.at_least
      (demands_of (is_in_unit l.head) (drop l.node-index l.nodes))
      ≡ greatest (λ d. d.at_least) (demands_of (is_in_unit l.head) l.nodes);
  size : fold (λ n (d : Demand). max n d.size) l.asks.size (demands_of (is_in_unit l.head) (drop l.node-index l.nodes))
      ≡ greatest (λ d. d.size) (demands_of (is_in_unit l.head) l.nodes);
  few : l.asks.camping ≤ MAX_CAMPING * l.node-index;
  in_range : l.asks.size ≤ MAX_SIZE;
  some : l.asks.size ≡ 0 → l.asks.camping + l.asks.at_least ≡ 0;
}
