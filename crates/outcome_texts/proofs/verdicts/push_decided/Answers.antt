use Rattle.outcome_texts.proofs.Common.{List, PlayCall, [], ap, on_ok_weaker, ℕ, ◌++◌, ◌∙◌}
use Rattle.std.proofs.Common.{Option}
use Rattle.std.specs.Option.{option_map_or}
use Rattle.outcome_texts.specs.Verdicts.{call_numbered, decision_text}
use Rattle.outcome_texts.proofs.verdicts.push_decided.Goals as goal

-- the call is that of the play
pub returns : goal.returns
returns c =
    let decided : ℕ = c.args.found.now.figures.decided in
    on_ok_weaker c.push_decision_of.result
    (λ is. is ∙ ap (λ (call : Option PlayCall). c.args.text.now.items
    ++ option_map_or (decision_text c.args.telling.now c.args.found.now decided) call [])
    (c.call_of.ensures ∙ ap (λ (calls : List PlayCall). call_numbered calls decided) (c.deref.ensures.value ∙ c.in_ok-calls.ensures)))
    c.push_decision_of.ensures
