-- Where none of those that went is unkept, none is but those that are noted.
use Rattle.forest_store.proofs.Common.{◌∙◌, sym, nodes_with}
use Rattle.forest_store.proofs.leaving.Noted.{fewer_unkept}
use Rattle.forest_store.proofs.unkept.note_gone.Goals as goal

pub returns-else-over-clause-over : goal.returns-else-over-clause-over
returns-else-over-clause-over c unkept_known =
    fewer_unkept c.args.entry.now.unkept.items (nodes_with c.args.table.now c.args.keys.now) (sym c.requires.over ∙ c.if-over.false)
