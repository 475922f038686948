use Rattle.core_likeness.proofs.Common.{List, Mixed, Tracked, ap, map, map-map, new_id, new_key, new_number, subst, sym, tracked_of}
use Rattle.core_likeness.proofs.Common.{tracker_renamed, true, ◌∙◌, ◌≡◌}
use Rattle.core_state.specs.Shown.{tracked_as}
use Rattle.core_likeness.proofs.tracking.unfired_are_alike.Goals as goal

-- those that wait are told by the entries
pub returns : goal.returns
returns c = λ h.
    let yes : c.are_new_trackers-are_new.result ≡ true = cc in
    let new : Tracked → Tracked = tracker_renamed (new_key c.args.names.now) (new_id c.args.names.now) (new_number c.args.names.now) in
    subst (λ (l : List Tracked). Mixed l (map tracked_as c.args.other.now.trackers.unfired))
    (ap (map (λ a. new (tracked_of a))) c.deref.ensures.value
    ∙ (sym (map-map new tracked_of c.in_ok-trackers.trackers.items)
    ∙ (ap (map new) c.in_ok-trackers.ensures ∙ map-map new tracked_as c.args.one.now.trackers.unfired)))
    (subst (Mixed (map (λ a. new (tracked_of a)) c.deref.result.now)) c.in_ok-others.ensures (c.are_new_trackers-are_new.ensures yes))
