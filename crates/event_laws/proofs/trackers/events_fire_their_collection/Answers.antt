use Rattle.event_laws.proofs.Common.{All, AreAnswers-last, IsOf, Timeline, Tracked, [], after, false, is_tracked_met, legal_grows_on}
use Rattle.event_laws.proofs.Common.{subst, sym, timeline, timeline-push, trackers_to_test, world, ◌∷◌, ◌≡◌}
use Rattle.event_laws.proofs.ConcernLaws.{others_not_due}
use Rattle.event_laws.proofs.NumberLaws.{all-In}
use Rattle.event_laws.proofs.trackers.events_fire_their_collection.Goals as goal

pub returns : goal.returns
returns c pool limits history entry legal collection away =
    let before : Timeline = timeline pool history in
    let undue : Timeline → Tracked → Type 0 = λ m t. IsOf before collection t.condition → is_tracked_met (world m) t ≡ false in
    subst (λ (m : Timeline). All (undue m) (trackers_to_test before entry)) (sym (timeline-push pool history entry))
    (all-In (undue (after pool before entry)) (trackers_to_test before entry)
    (others_not_due pool limits before entry collection (legal_grows_on pool limits history (entry ∷ []) legal).first
    (AreAnswers-last pool limits [] history entry legal.answers).1 away))
