use Rattle.std.proofs.Common.{arith}
use Rattle.buffer_holds.proofs.Moves.{made}
use Rattle.buffer_holds.proofs.Outcomes.{at_none}
use Rattle.buffer_holds.proofs.Sound.{few_clients, no-sum-no-page}
use Rattle.buffer_holds.proofs.places.find_places.Goals as goal

-- without a sum there is no page
pub row_beside-requires : goal.row_beside-requires
row_beside-requires c =
    at_none c.sum_place-sum.result (no-sum-no-page c.requires.agrees c.args.owner) c.sum_place-sum.ensures.none

-- there are no more clients than pages
pub make_places-requires-clause-fits : goal.make_places-requires-clause-fits
make_places-requires-clause-fits c =
    omega (
      arith,
      c.requires.agrees.clients c.args.owner.part,
      few_clients c.args.owner.part c.args.rows.now.entries,
      c.len-rows.ensures.len,
      c.len-rows.ensures.small,
    )

-- a page that was made is blank
pub returns-in_default-clause-agrees : goal.returns-in_default-clause-agrees
returns-in_default-clause-agrees c =
    (made c.requires.agrees c.args.owner c.max.result c.in_default.ensures.none c.in_ok-places.ensures.added c.in_ok-places.ensures.entered
    (omega (arith, c.max.ensures)) (omega (arith, c.max.ensures))).0

pub returns-in_default-clause-alike : goal.returns-in_default-clause-alike
returns-in_default-clause-alike c =
    (made c.requires.agrees c.args.owner c.max.result c.in_default.ensures.none c.in_ok-places.ensures.added c.in_ok-places.ensures.entered
    (omega (arith, c.max.ensures)) (omega (arith, c.max.ensures))).1
