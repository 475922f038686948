-- The first of the children is one of them.
use Rattle.forest_store.proofs.tables.TakingOut.{first_child_is}
use Rattle.forest_store.proofs.unkept.first_child.Goals as goal

pub returns : goal.returns
returns c = first_child_is _ _ c.kept_first_child.ensures.forest _ c.kept_first_child.ensures.value
