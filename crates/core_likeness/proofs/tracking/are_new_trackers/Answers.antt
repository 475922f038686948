use Rattle.core_likeness.proofs.Common.{Attached, List, Mixed, Nothing, Tracked, [], arith, common_steps, drop, drop_all, length, map}
use Rattle.core_likeness.proofs.Common.{new_id, new_key, new_number, nil_from_length, remove, subst, sym, tracked_of, tracker_renamed}
use Rattle.core_likeness.proofs.Common.{◌+◌, ◌<◌, ◌≡◌, ◌≤◌}
use Rattle.sm_names.specs.declared.tracking.Condition.{Condition}
use Rattle.core_likeness.proofs.MixedLaws.{mixed-next}
use Rattle.core_likeness.proofs.tracking.are_new_trackers.Goals as goal

-- some tracker
none : Attached
none = record { id = 0; condition = Condition.Node (record { slot = 0; generation = 0 }) }

-- one more is taken
pub loop-tracker-preserved : goal.loop-tracker-preserved
loop-tracker-preserved c = λ rest.
    let new : Attached → Tracked =
    λ a. tracker_renamed (new_key c.args.names.now) (new_id c.args.names.now) (new_number c.args.names.now) (tracked_of a) in
    let within : c.loop-tracker.tracker-index < length c.args.one.now = omega arith in
    let before = drop (c.loop-tracker.tracker-index + 1) c.args.one.now in
    c.loop-tracker.invariant (subst
    (λ (l : List Attached). Mixed (map new (drop c.loop-tracker.tracker-index c.args.one.now)) (map tracked_of l)) c.deref.ensures.value
    (mixed-next new tracked_of c.args.one.now c.deref.result.now c.loop-tracker.tracker-index c.in-Some.at none _ within
    c.in-Some.ensures.0 (c.in-Some.ensures.1 none)
    (subst (λ (l : List Attached). Mixed (map new before) (map tracked_of (remove l c.in-Some.at))) (sym c.deref.ensures.value)
    (subst (λ (l : List Attached). Mixed (map new before) (map tracked_of l)) c.remove.ensures.items rest))))

-- where none is left of either, nothing is left to show
pub returns : goal.returns
returns c = λ h.
    let new : Attached → Tracked =
    λ a. tracker_renamed (new_key c.args.names.now) (new_id c.args.names.now) (new_number c.args.names.now) (tracked_of a) in
    let all : length c.args.one.now ≤ c.loop-tracker.tracker-index = omega arith in
    let few : length c.loop-tracker.other.items ≡ 0 = grind (arith, common_steps) in
    c.loop-tracker.invariant
    (subst (λ (l : List Attached). Mixed (map new (drop c.loop-tracker.tracker-index c.args.one.now)) (map tracked_of l))
    (sym (nil_from_length c.loop-tracker.other.items few))
    (subst (λ (l : List Attached). Mixed (map new l) []) (sym (drop_all c.loop-tracker.tracker-index c.args.one.now all)) Nothing))
