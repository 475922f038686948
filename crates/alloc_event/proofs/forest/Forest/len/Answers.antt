-- The table has as many nodes as there are keys.
use Rattle.alloc_event.proofs.Common.{rows_of, sym, ◌∙◌}
use Rattle.forest_store.proofs.rows.Showing.{all_filed-length}
use Rattle.alloc_event.proofs.forest.Forest.len.Goals as goal

pub returns : goal.returns
returns c =
    rw (← c.self.view_is)
    (c.len.ensures ∙ sym c.self.invariant.kept.counted
    ∙ sym (all_filed-length c.self.inside.store.nodes.table (rows_of c.self.inside.store.entries.items) c.self.invariant.kept.filed))
