use Rattle.std.proofs.Common.{arith}
use Rattle.script_explain.proofs.check.Comparison.push_verdict.Goals as goal

-- some replies were compared
pub returns : goal.returns
returns c = λ scene kept. (omega (arith, c.if-self-eq0.false), c.in_ok-push_agreement.ensures scene kept)
