use Rattle.forest_steps.proofs.Common.{◌≡◌, ◌≤◌, ◌+◌, drop, sum_by, Demand, filter_map, fold, greatest, ◌*◌, max, MAX_CAMPING}
use Rattle.sm_names.specs.declared.rules.TheConstants.{MAX_SIZE}
use Rattle.forest_store.specs.UnitAllocation.{asked_at}
use Rattle.forest_steps.proofs.initial_allocation.root_total.Given as goal

-- with those that are still to come it is what all ask for
abbrev pub invariant-loop-key : goal.invariant-loop-key
invariant-loop-key l = record {
  camping : fold (λ a (d : Demand). a + d.camping) l.asks.camping (filter_map (asked_at l.table l.those l.after) (drop l.key-index l.keys))
      ≡ sum_by (λ (d : Demand). d.camping) (filter_map (asked_at l.table l.those l.after) l.keys);
  at_least : fold (λ n (d : Demand). max n d.at_least) l.asks.at_least
      (filter_map (asked_at l.table l.those l.after) (drop l.key-index l.keys))
      ≡ greatest (λ d. d.at_least) (filter_map (asked_at l.table l.those l.after) l.keys);
  size : fold (λ n (d : Demand). max n d.size) l.asks.size (filter_map (asked_at l.table l.those l.after) (drop l.key-index l.keys))
      ≡ greatest (λ d. d.size) (filter_map (asked_at l.table l.those l.after) l.keys);
  few : l.asks.camping ≤ MAX_CAMPING * l.key-index;
  in_range : l.asks.size ≤ MAX_SIZE;
  some : l.asks.size ≡ 0 → l.asks.camping + l.asks.at_least ≡ 0;
}
