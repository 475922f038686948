-- The count of the entry tells it.
use Rattle.alloc_event.proofs.Common.{Collection, ap, collection_none, false, nodes_with, option_map_or, sym, ◌∙◌}
use Rattle.forest_store.specs.Nodes.{members_of}
use Rattle.sm_names.specs.Members.{some_strong_live}
use Rattle.forest_steps.proofs.changes.Dropped.{strong_found}
use Rattle.forest_store.proofs.quiescence.Watched.{found_counted, strong_told}
use Rattle.alloc_event.proofs.forest.Forest.strong_live.Goals as goal

pub returns-in-Some : goal.returns-in-Some
returns-in-Some c =
    let told = strong_found c.self.inside.store.nodes.table c.self.inside.store.entries.items c.args.id
    (sym (rw c.deref.ensures.value at c.in-Some.ensures)) in
    let counted = found_counted _ _ _ _ c.self.invariant.counted
    (sym (rw c.deref.ensures.value at c.in-Some.ensures)) in
    rw (← c.self.view_is)
    (strong_told (nodes_with c.self.inside.store.nodes.table c.in-Some.entry.now.keys.items) _ counted.strong ∙ sym told)

pub returns-in-None : goal.returns-in-None
returns-in-None c =
    rw (← c.self.view_is)
    (sym (ap (λ o. option_map_or (λ (d : Collection). some_strong_live (members_of d.nodes)) o false)
    (collection_none c.self.inside.store.nodes.table
    c.self.inside.store.entries.items c.args.id (sym (rw c.deref.ensures.value at c.in-None.ensures)))))
