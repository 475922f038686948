use Rattle.std.proofs.Common.{refl}
use Rattle.script_explain.proofs.Telling.{seen-none}
use Rattle.script_explain.proofs.explain.Explainer.new.Goals as goal

pub returns-clause-start : goal.returns-clause-start
returns-clause-start c = (
  refl,
  refl,
  seen-none _ _ _ refl refl c.in_ok-seen.ensures.knows c.in_ok-seen.ensures.recalls c.in_ok-seen.ensures.failing,
)
