use Rattle.forest_steps.proofs.Common.{parted-in_order}
use Rattle.forest_steps.proofs.placement.assert_disjoint.Goals as goal

pub returns : goal.returns
returns c = parted-in_order 0 _ c.args.pool.now.held c.free_pages.ensures.sound.in_order
