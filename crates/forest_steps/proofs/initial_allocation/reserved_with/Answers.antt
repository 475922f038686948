use Rattle.forest_steps.proofs.Common.{◌≡◌, inr, sum_by, Demand, allocated_with}
use Rattle.forest_steps.proofs.initial_allocation.reserved_with.Goals as goal

pub returns-else-entry-eq0 : goal.returns-else-entry-eq0
returns-else-entry-eq0 c =
    let counted : c.reserved_then.result
    ≡ sum_by (λ (d : Demand). d.camping) (allocated_with c.args.table.now c.args.entry.now.keys.items c.args.head c.args.after.now) =
    rw c.as_slice.ensures.items at c.reserved_then.ensures in
    inr counted
