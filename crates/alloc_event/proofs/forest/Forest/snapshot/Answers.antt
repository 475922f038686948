-- The entry with the id is the collection.
use Rattle.alloc_event.proofs.Common.{Some, ap, collection_in, collection_is, collection_none, found_whole, option_map, row_found, row_of}
use Rattle.alloc_event.proofs.Common.{rows_of, sym, ◌∙◌}
use Rattle.alloc_event.proofs.forest.Forest.snapshot.Goals as goal

pub returns-in_default-clause-value : goal.returns-in_default-clause-value
returns-in_default-clause-value c =
    rw (← c.self.view_is)
    (sym (collection_none c.self.inside.store.nodes.table c.self.inside.store.entries.items c.args.id
    (sym (rw c.deref.ensures.value at c.in_default.ensures))))

pub returns-in-Ok-clause-value : goal.returns-in-Ok-clause-value
returns-in-Ok-clause-value c =
    let found = row_found c.args.id c.self.inside.store.entries.items
    ∙ ap (option_map row_of) (sym (rw c.deref.ensures.value at c.in-Some.ensures)) in
    rw (← c.self.view_is)
    (ap Some c.in-Ok.ensures
    ∙ sym (collection_is c.self.inside.store.nodes.table c.args.id (rows_of c.self.inside.store.entries.items)
    ∙ ap (option_map (collection_in c.self.inside.store.nodes.table)) found))

-- as each of the forest is
pub returns-in-Ok-clause-sound : goal.returns-in-Ok-clause-sound
returns-in-Ok-clause-sound c =
    let found = row_found c.args.id c.self.inside.store.entries.items
    ∙ ap (option_map row_of) (sym (rw c.deref.ensures.value at c.in-Some.ensures)) in
    rw c.in-Ok.ensures
    (found_whole c.self.inside.store.nodes.table c.args.id (rows_of c.self.inside.store.entries.items) (row_of c.in-Some.entry.now)
    c.self.invariant.kept.whole found).sound
