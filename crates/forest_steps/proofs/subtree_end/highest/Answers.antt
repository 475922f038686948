-- The climb ends where it would with as many steps as there are nodes.
use Rattle.forest_steps.proofs.Common.{sym, ◌∙◌, inl, inr, arith}
use Rattle.forest_steps.proofs.mid_event.EndAbove.{all_made, one_more}
use Rattle.forest_steps.proofs.subtree_end.highest.Goals as goal

pub returns-in-None-clause-climbed : goal.returns-in-None-clause-climbed
returns-in-None-clause-climbed c =
    all_made _ _ _ _ _ _ c.up.invariant.so_far
    (omega (arith, c.up.auto.counter-end, c.len-end.ensures)) (inl (sym c.unit_over.ensures.over ∙ c.in-None.is))

pub up-preserved : goal.up-preserved
up-preserved c = grind (arith, one_more)

pub returns-clause-climbed : goal.returns-clause-climbed
returns-clause-climbed c =
    all_made _ _ _ _ _ _ c.up.invariant.so_far
    (omega (arith, c.up.auto.counter-end, c.len-end.ensures))
    (inr (omega (arith, c.up.auto.counter-end, c.len-end.ensures, c.up-test.false)))
