use Rattle.core_likeness.proofs.Common.{Mixed, drop, map, new_id, new_key, new_number, tracked_of, tracker_renamed}
use Rattle.core_likeness.proofs.tracking.are_new_trackers.Given as goal

-- where those that are left are the same, all are
abbrev pub invariant-loop-tracker : goal.invariant-loop-tracker
invariant-loop-tracker l =
    Mixed (map (λ a. tracker_renamed (new_key l.names) (new_id l.names) (new_number l.names) (tracked_of a)) (drop l.tracker-index l.one))
    (map tracked_of l.other.items) →
    Mixed (map (λ a. tracker_renamed (new_key l.names) (new_id l.names) (new_number l.names) (tracked_of a)) l.one)
    (map tracked_of l.fn.other.items)
