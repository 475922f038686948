use Rattle.core_likeness.proofs.Common.{Fired, Tracked, filter, list_any, map, not, take, tracked_of, ◌==◌, ◌≡◌}
use Rattle.core_likeness.proofs.readings.tracking.unfired_of.Given as goal

-- so far those of these trackers
abbrev pub invariant-loop-tracker : goal.invariant-loop-tracker
invariant-loop-tracker l = map tracked_of l.waiting.items ≡ filter (λ (t : Tracked). not (list_any (λ (f : Fired). f.tracker ==
    t.id) l.fired))
    (map tracked_of (take l.tracker-index l.all.items))
