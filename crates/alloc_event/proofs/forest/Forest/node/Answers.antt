-- The table has each node of the forest.
use Rattle.alloc_event.proofs.Common.{node_is, sym, ◌∙◌}
use Rattle.alloc_event.proofs.forest.Forest.node.Goals as goal

pub returns : goal.returns
returns c = rw (← c.self.view_is) (c.get.ensures ∙ sym (node_is _ _ c.self.invariant.kept _))
