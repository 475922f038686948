use Rattle.event_laws.proofs.Common.{AreAnswers-last, Timeline, [], events, filter, fired, is_tracked_met, legal_grows_on, map, not, refl}
use Rattle.event_laws.proofs.Common.{subst, sym, timeline, timeline-push, tracked_firing, trackers_to_test, unfired_trackers, world, ◌++◌}
use Rattle.event_laws.proofs.Common.{◌∷◌, ◌≡◌}
use Rattle.event_laws.proofs.WaitingLaws.{fired_next, waiting_next}
use Rattle.event_laws.proofs.trackers.events_fire_what_is_due.Goals as goal

pub returns-clause-fired : goal.returns-clause-fired
returns-clause-fired c pool limits history entry legal =
    let before : Timeline = timeline pool history in
    subst (λ (m : Timeline). fired m
    ≡ fired before ++ map (tracked_firing (events m)) (filter (is_tracked_met (world m)) (trackers_to_test before entry)))
    (sym (timeline-push pool history entry))
    (fired_next pool limits before entry (legal_grows_on pool limits history (entry ∷ []) legal).first (AreAnswers-last pool limits []
    history entry legal.answers).1)

pub returns-clause-waiting : goal.returns-clause-waiting
returns-clause-waiting c pool limits history entry legal =
    let before : Timeline = timeline pool history in
    subst (λ (m : Timeline). unfired_trackers m ≡ filter (λ t. not (is_tracked_met (world m) t)) (trackers_to_test before entry))
    (sym (timeline-push pool history entry))
    (waiting_next pool limits before entry (legal_grows_on pool limits history (entry ∷ []) legal).first (AreAnswers-last pool limits []
    history entry legal.answers).1)

pub returns-clause-nothing : goal.returns-clause-nothing
returns-clause-nothing c = refl
