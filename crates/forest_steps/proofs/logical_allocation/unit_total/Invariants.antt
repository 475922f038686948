use Rattle.forest_steps.proofs.Common.{◌≡◌, ◌≤◌, ◌+◌, drop, sum_by, Demand, filter_map, fold, greatest, ◌*◌, max, MAX_CAMPING, asked_there}
use Rattle.forest_steps.proofs.logical_allocation.unit_total.Given as goal

-- with those that are still to come it is what all ask for
abbrev pub invariant-loop-at : goal.invariant-loop-at
invariant-loop-at l = record {
  camping : fold (λ a (d : Demand). a + d.camping) l.asks.camping (filter_map (asked_there l.table l.head) (drop l.at-index l.keys))
      ≡ sum_by (λ (d : Demand). d.camping) (filter_map (asked_there l.table l.head) l.keys);
  at_least : fold (λ n (d : Demand). max n d.at_least) l.asks.at_least (filter_map (asked_there l.table l.head) (drop l.at-index l.keys))
      ≡ greatest (λ d. d.at_least) (filter_map (asked_there l.table l.head) l.keys);
  size : fold (λ n (d : Demand). max n d.size) l.asks.size (filter_map (asked_there l.table l.head) (drop l.at-index l.keys))
      ≡ greatest (λ d. d.size) (filter_map (asked_there l.table l.head) l.keys);
  few : l.asks.camping ≤ MAX_CAMPING * l.at-index;
}
