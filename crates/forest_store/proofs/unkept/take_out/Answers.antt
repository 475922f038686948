-- The node is removed once its children are cut.
use Rattle.forest_store.proofs.Common.{sym, ◌∙◌}
use Rattle.forest_store.proofs.tables.Storing.{row_there}
use Rattle.forest_store.proofs.tables.TakingOut.{takes_out}
use Rattle.forest_store.proofs.unkept.take_out.Goals as goal

pub cut_children-requires : goal.cut_children-requires
cut_children-requires c = row_there c.args.table.now c.args.key c.requires

pub returns-clause-out : goal.returns-clause-out
returns-clause-out c = takes_out _ _ _ _ _ c.requires c.cut_children.ensures c.remove.ensures

pub returns-clause-was : goal.returns-clause-was
returns-clause-was c = sym (c.cut_children.ensures.look c.args.key) ∙ c.remove.ensures.was
