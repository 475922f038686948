use Rattle.picture_model.proofs.Common.{[], fold, take, ◌≡◌}
use Rattle.picture_model.specs.Travels.{summed, sums_of}
use Rattle.picture_model.proofs.failure_view.add_up.Given as goal

-- those so far
abbrev pub invariant-loop-one : goal.invariant-loop-one
invariant-loop-one l = sums_of l.steps.items l.last ≡ fold summed (sums_of [] l.before) (take l.one-index l.ones.items)
