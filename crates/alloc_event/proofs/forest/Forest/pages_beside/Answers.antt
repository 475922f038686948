-- The other entries hold the pages of the other collections.
use Rattle.alloc_event.proofs.Common.{sym, ◌∙◌}
use Rattle.forest_store.proofs.rows.Showing.{pages_of_others}
use Rattle.alloc_event.proofs.forest.Forest.pages_beside.Goals as goal

pub returns-in-Ok : goal.returns-in-Ok
returns-in-Ok c =
    let listed = rw c.deref.ensures.value at c.in-Ok.ensures in
    rw (← c.self.view_is) (listed ∙ sym (pages_of_others c.self.inside.store.nodes.table c.args.id c.self.inside.store.entries.items))
