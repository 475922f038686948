use Rattle.std.proofs.lemmas.Result.{on_ok_weaker}
use Rattle.event_texts.specs.EventTexts.{some_doomed}
use Rattle.event_texts.proofs.Pieces.{three}
use Rattle.event_texts.proofs.outcomes.push_some_doomed.Goals as goal

-- the three texts
pub returns : goal.returns
unfolding some_doomed
returns c = on_ok_weaker c.push-2.result
    (λ put names keeps. three _ _ _ _ _ _ _ c.in_ok-push.ensures.ok (c.in_ok-push_set.ensures names keeps) put)
    c.push-2.ensures.ok
