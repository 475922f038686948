use Rattle.forced_marks.proofs.Common.{Collection, IsSound, List, Mark, SettlesBy, collection_of, map, stage_of, stages, total, ◌++◌, ◌≡◌}
use Rattle.forced_marks.proofs.StepsLeft.{steps_left}
use Rattle.forced_marks.proofs.forced_steps.settle.Given as goal

-- the moments so far lead here: what follows from here, follows behind them from the beginning
abbrev pub invariant-steps : goal.invariant-steps
invariant-steps l = record {
  sound : IsSound (collection_of l.scene);
  settles : (rest : List Mark) (after : Collection) →
      SettlesBy l.pool (total l.holds) l.others (collection_of l.scene) rest after →
      (marks : List Mark)
      × SettlesBy l.pool (total l.holds) l.others (collection_of l.initial.scene) marks after
      × (map stage_of l.all.items ++ stages l.pool l.others (collection_of l.scene) rest
      ≡ map stage_of l.fn.moments.items ++ stages l.pool l.others (collection_of l.initial.scene) marks);
}

abbrev pub decreases-steps : goal.decreases-steps
decreases-steps l = steps_left l.scene.nodes.items
