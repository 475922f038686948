-- The buffers of all collections are those of the entries.
use Rattle.alloc_event.proofs.Common.{sym, ◌∙◌}
use Rattle.alloc_event.proofs.rows.Ordered.{held_in_order}
use Rattle.alloc_event.proofs.forest.Forest.held.Goals as goal

pub returns-in-Ok : goal.returns-in-Ok
returns-in-Ok c =
    let listed = rw c.deref.ensures.value at c.in-Ok.ensures in
    rw (← c.self.view_is) (listed ∙ sym (held_in_order c.self.inside.store.nodes.table c.self.inside.store.entries.items))
