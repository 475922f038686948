use Rattle.event_laws.proofs.Common.{AreAnswers-last, IsOf, Some, Timeline, Tracked, [], collection_at, legal_grows, subst, sym, timeline}
use Rattle.event_laws.proofs.Common.{timeline-push, tracked, tracker_made, ℕ, ◌≡◌}
use Rattle.event_laws.proofs.ConcernLaws.{concerned, made_together, of_after}
use Rattle.event_laws.proofs.NumberLaws.{all-In}
use Rattle.event_laws.proofs.trackers.trackers_concern_a_collection.Goals as goal

pub returns-clause-each : goal.returns-clause-each
returns-clause-each c pool limits history legal =
    let marks : Timeline = timeline pool history in
    all-In (λ (t : Tracked). (collection : ℕ) × IsOf marks collection t.condition) (tracked marks)
    (concerned pool limits marks (legal_grows pool limits history legal))

pub returns-clause-made : goal.returns-clause-made
returns-clause-made c pool limits history entry legal =
    let marks : Timeline = timeline pool history in
    all-In (λ (t : Tracked). (collection : ℕ) × (collection_at marks entry ≡ Some collection) × IsOf marks collection t.condition)
    (tracker_made marks entry)
    (λ t on. made_together limits marks entry t (AreAnswers-last pool limits [] history entry legal.answers).1 on)

pub returns-clause-kept : goal.returns-clause-kept
returns-clause-kept c pool limits history entry legal collection condition here =
    subst (λ (m : Timeline). IsOf m collection condition) (sym (timeline-push pool history entry))
    (of_after pool limits (timeline pool history) entry collection condition (AreAnswers-last pool limits [] history entry legal.answers).1
    here)
