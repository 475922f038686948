use Rattle.std.proofs.lemmas.Result.{on_ok_weaker}
use Rattle.event_texts.proofs.Pieces.{four}
use Rattle.event_texts.proofs.outcomes.push_listed.Goals as goal

-- the four texts
pub returns : goal.returns
returns c = on_ok_weaker c.push-2.result
    (λ put names keeps calls. four _ _ _ _ _ _ _ _ _ c.in_ok-push.ensures.ok (c.in_ok-push_waited.ensures names keeps calls)
    (c.in_ok-push_others.ensures names keeps calls) put)
    c.push-2.ensures.ok
