use Rattle.script_explain.proofs.explain.Explainer.explain.Goals as goal

-- what is told of the line changes nothing
pub returns-in-Ok-tell-clause-tells : goal.returns-in-Ok-tell-clause-tells
returns-in-Ok-tell-clause-tells c = λ scene kept knows recalls.
    rw c.tell.ensures.seen (rw c.tell.ensures.reply (rw c.tell.ensures.facts (c.in-Ok.ensures.tells scene kept knows recalls)))
