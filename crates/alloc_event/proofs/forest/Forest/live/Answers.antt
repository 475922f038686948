-- The nodes of all collections are those of all keys.
use Rattle.alloc_event.proofs.Common.{rows_of, sym, ◌∙◌}
use Rattle.alloc_event.proofs.rows.Ordered.{live_in_order}
use Rattle.alloc_event.proofs.forest.Forest.live.Goals as goal

pub returns-in-Ok : goal.returns-in-Ok
returns-in-Ok c =
    let listed = rw c.deref.ensures.value at c.in-Ok.ensures in
    rw (← c.self.view_is) (listed ∙ sym (live_in_order c.self.inside.store.nodes.table (rows_of c.self.inside.store.entries.items)))
