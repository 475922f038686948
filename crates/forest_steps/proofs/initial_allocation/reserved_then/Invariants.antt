use Rattle.forest_steps.proofs.Common.{◌≡◌, ◌≤◌, ◌+◌, drop, sum_by, Demand, filter_map, fold, ◌*◌, MAX_CAMPING}
use Rattle.forest_steps.specs.InitialAllocation.{allocated_at}
use Rattle.forest_steps.proofs.initial_allocation.reserved_then.Given as goal

-- with those that are still to come it is what all ask for
abbrev pub invariant-loop-key : goal.invariant-loop-key
invariant-loop-key l = record {
  camping : fold (λ a (d : Demand). a + d.camping) l.camping (filter_map (allocated_at l.table l.head l.after) (drop l.key-index l.keys))
      ≡ sum_by (λ (d : Demand). d.camping) (filter_map (allocated_at l.table l.head l.after) l.keys);
  few : l.camping ≤ MAX_CAMPING * l.key-index;
}
