use Rattle.core_likeness.proofs.Common.{ap, arith, length, refl, tracked_of, ◌<◌, ◌∙◌}
use Rattle.std.proofs.lemmas.List.{get_or_default}
use Rattle.core_likeness.proofs.tracking.place_of.Goals as goal

-- this one is
pub returns-then-is_new_tracker : goal.returns-then-is_new_tracker
returns-then-is_new_tracker c =
    let within : c.loop-at.at < length c.args.trackers.now = omega arith in
    (within, λ d. ap tracked_of (get_or_default c.args.trackers.now c.loop-at.at d _ within) ∙ c.if-is_new_tracker.ensures refl)
