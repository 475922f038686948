use Rattle.event_laws.proofs.Common.{AreAnswers-last, Timeline, Tracked, [], is_tracked_met, legal_grows_on, timeline, trackers_to_test}
use Rattle.event_laws.proofs.Common.{world, ◌++◌, ◌∷◌, ◌≡◌}
use Rattle.history_laws.proofs.GrowthLaws.{GrowsOn}
use Rattle.event_laws.proofs.NumberLaws.{all-In}
use Rattle.event_laws.proofs.RecallLaws.{recalled_due}
use Rattle.event_laws.proofs.trackers.gone_nodes_and_home_buffers_may_be_forgotten.Goals as goal

pub returns : goal.returns
returns c pool limits history entry legal w recalled =
    let before : Timeline = timeline pool history in
    let later : Timeline = timeline pool (history ++ entry ∷ []) in
    let grows : GrowsOn pool limits history (entry ∷ []) = legal_grows_on pool limits history (entry ∷ []) legal in
    all-In (λ (t : Tracked). is_tracked_met w t ≡ is_tracked_met (world later) t) (trackers_to_test before entry)
    (recalled_due pool limits before later entry w grows.first grows.then (AreAnswers-last pool limits [] history entry legal.answers).1
    recalled)
