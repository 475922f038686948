use Rattle.history_laws.proofs.Common.{IsAsBefore, Timeline, [], subst, sym, timeline, ◌∷◌}
use Rattle.history_laws.proofs.ApartLaws.{as_before}
use Rattle.history_laws.proofs.GrowthLaws.{legal_grows_on}
use Rattle.history_laws.proofs.HistoryLaws.{AreAnswers-last, timeline-push}
use Rattle.history_laws.proofs.collections.events_stay_in_their_collection.Goals as goal

pub returns : goal.returns
returns c pool limits history entry legal collection away =
    let before : Timeline = timeline pool history in
    subst (λ (m : Timeline). IsAsBefore pool before m collection) (sym (timeline-push pool history entry))
    (as_before pool limits before entry collection (legal_grows_on pool limits history (entry ∷ []) legal).first
    (AreAnswers-last pool limits [] history entry legal.answers).1 away)
