-- The hole at the spot is the first of those behind the place.
use Rattle.buffer_pool.proofs.Common.{all_in, arith, common_steps, drop_more, refl, spot_index, sym}
use Rattle.buffer_pool.proofs.Joins.{place-within}
use Rattle.buffer_pool.proofs.holes.begins_at.Goals as goal

pub returns-then-has_interval : goal.returns-then-has_interval
returns-then-has_interval c =
    let taken = c.has_interval.ensures.yes c.if-has_interval.true in
    let lt = place-within c.args.blocks.now.lists c.args.spot.block c.args.spot.offset taken.0 taken.1 in
    let parts = rw (sym c.get.ensures) at (drop_more (all_in c.args.blocks.now.lists) (spot_index c.args.blocks.now.lists c.args.spot)
    c.get.result lt) in
    rw (parts, c.from.ensures) refl

-- by arithmetic and the usual steps
pub returns-else-has_interval : goal.returns-else-has_interval
returns-else-has_interval c = grind (arith, common_steps)
