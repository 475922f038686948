-- The entry with the id is the collection.
use Rattle.alloc_event.proofs.Common.{Some, ap, arith, collection_none, found_whole, length, option_map, row_found, row_of, rows_of, sym}
use Rattle.alloc_event.proofs.Common.{◌∙◌, ◌≡◌}
use Rattle.forest_store.specs.Forest.{summary_of}
use Rattle.forest_store.proofs.rows.Showing.{collection_some, few_given}
use Rattle.alloc_event.proofs.forest.Forest.collection.Goals as goal

pub returns-in-Some-clause-value : goal.returns-in-Some-clause-value
returns-in-Some-clause-value c =
    let told = collection_some _ _ c.self.invariant.kept _ _
    (sym (rw c.deref.ensures.value at c.in-Some.ensures)) in
    let nodes : c.len.result ≡ length c.in-Some.entry.now.keys.items = omega arith in
    let held : c.len-in-Some.result ≡ length c.in-Some.entry.now.held.items = omega arith in
    rw (← c.self.view_is)
    ((λ i. Some (record { nodes = nodes i; buffers = c.in-Some.entry.now.buffers; held = held i })) ∙ sym told)

-- each collection was given so few
pub returns-in-Some-clause-few : goal.returns-in-Some-clause-few
returns-in-Some-clause-few c =
    let entry = c.in-Some.entry.now in
    let found = row_found c.args.id c.self.inside.store.entries.items
    ∙ ap (option_map row_of) (sym (rw c.deref.ensures.value at c.in-Some.ensures)) in
    few_given _ (found_whole c.self.inside.store.nodes.table c.args.id (rows_of c.self.inside.store.entries.items) (row_of entry)
    c.self.invariant.kept.whole found).sound.few

pub returns-in-None-clause-value : goal.returns-in-None-clause-value
returns-in-None-clause-value c =
    rw (← c.self.view_is)
    (sym (ap (option_map summary_of) (collection_none c.self.inside.store.nodes.table c.self.inside.store.entries.items c.args.id
    (sym (rw c.deref.ensures.value at c.in-None.ensures)))))
