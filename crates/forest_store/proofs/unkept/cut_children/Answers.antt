-- Each cut leaves one child fewer.
use Rattle.forest_store.proofs.Common.{is_some, ap, ◌∙◌}
use Rattle.forest_store.proofs.tables.Storing.{node_there, row_there}
use Rattle.forest_store.proofs.tables.TakingOut.{CutsOff-more, cut_fewer}
use Rattle.forest_store.proofs.unkept.cut_children.Goals as goal

-- a cut takes no node away
pub first_child-requires : goal.first_child-requires
first_child-requires c =
    let was = node_there c.args.table.now c.args.key c.requires in
    row_there c.cutting.table c.args.key (ap is_some (c.cutting.invariant.off.look c.args.key ∙ was.1))

pub cutting-smaller : goal.cutting-smaller
cutting-smaller c = cut_fewer _ _ _ _ c.in-Some.ensures c.cut.ensures

pub cutting-preserved : goal.cutting-preserved
cutting-preserved c = record {
  off = CutsOff-more c.args.table.now c.cutting.table c.cut.new.self c.args.key c.in-Some.child c.cutting.invariant.off c.in-Some.ensures
      c.cut.ensures;
}
