use Rattle.std.proofs.Common.{◌++◌, ap, ◌∙◌}
use Rattle.std.proofs.lemmas.Result.{on_ok_weaker}
use Rattle.std.specs.Prelude.{codes, decimal}
use Rattle.script_explain.proofs.Answering.{parts-flat}
use Rattle.script_explain.proofs.check.push_difference.Goals as goal

pub returns : goal.returns
returns c = on_ok_weaker c.push_parts.result
    (λ put. put ∙ ap (λ text. c.args.text.now.items ++ text)
    (parts-flat (codes "line ") (decimal c.args.number) (codes ": ") c.args.line.now (codes "\n  recorded  ") c.args.recorded.now
    (codes "\n  legal     ") c.legal_reply.result.now
    ∙ ap (λ legal. codes "line " ++ decimal c.args.number ++ codes ": " ++ c.args.line.now ++ codes "\n  recorded  "
    ++ c.args.recorded.now ++ codes "\n  legal     " ++ legal) c.legal_reply.ensures))
    c.push_parts.ensures
