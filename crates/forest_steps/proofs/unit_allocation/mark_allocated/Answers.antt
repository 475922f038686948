-- One node after another.
use Rattle.std.proofs.lemmas.List.{take_more}
use Rattle.forest_steps.proofs.allocation.Giving.{given_more}
use Rattle.std.proofs.Common.{arith}
use Rattle.std.proofs.lemmas.Grind.{common_steps}
use Rattle.forest_steps.proofs.unit_allocation.mark_allocated.Goals as goal

pub loop-key-preserved : goal.loop-key-preserved
loop-key-preserved c =
    let more = take_more c.args.keys.now c.loop-key.key-index (record { slot = 0; generation = 0 }) c.loop-key-test.true in
    record {
      given = rw more (given_more c.loop-key.invariant.given
          c.mark_allocated_at.ensures);
    }

pub returns : goal.returns
returns c = grind (arith, common_steps)
