use Rattle.forced_marks.proofs.Common.{affected, arith}
use Rattle.forced_marks.proofs.InPlace.{map_step}
use Rattle.forced_marks.proofs.own_change.apply_effect.Goals as goal

pub loop-at-preserved : goal.loop-at-preserved
loop-at-preserved c =
    map_step (affected c.args.key c.args.effect.now) c.args.nodes.now c.loop-at.nodes c.loop-at.at c.index-nodes-at.result _
    (omega arith) c.loop-at.invariant c.index-nodes-at.is c.affect_one.ensures
