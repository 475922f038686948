-- What the sum loses and what it gains.
use Rattle.forest_store.proofs.Common.{sym, ◌∙◌}
use Rattle.forest_store.proofs.reserved.exchanged.Goals as goal

pub returns-clause-sum : goal.returns-clause-sum
returns-clause-sum c real e = c.without.ensures real (e ∙ sym c.in_ok-both.ensures.1)
