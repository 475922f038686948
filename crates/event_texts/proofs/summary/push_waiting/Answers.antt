use Rattle.event_texts.proofs.Common.{List, ap, on_ok_weaker, waiting_text, ℕ, ◌++◌, ◌∙◌}
use Rattle.event_texts.proofs.summary.push_waiting.Goals as goal

-- those that were found
pub returns : goal.returns
returns c = on_ok_weaker c.push_named.result
    (λ put names keeps.
    put names keeps
    ∙ ap (λ (found : List ℕ). c.args.text.now.items ++ waiting_text names found) (c.deref.ensures.value
    ∙ c.in_ok-waiting.ensures names keeps))
    c.push_named.ensures
