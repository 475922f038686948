use Rattle.forest_steps.proofs.Common.{subst, arith, Contains}
use Rattle.buffer_pool.proofs.Runs.{HasRun-more, run-few, without_run-had}
use Rattle.forest_steps.proofs.page_ranges.extend_range.Goals as goal

pub overflow_add-result : goal.overflow_add-result
overflow_add-result c = grind (arith, run-few)

pub returns-then-is_next-clause-run : goal.returns-then-is_next-clause-run
returns-then-is_next-clause-run c =
    HasRun-more _ _ _ _ c.requires.run
    (subst (Contains c.args.pool.now.held) (c.is_next.ensures c.if-is_next.true)
    (without_run-had c.args.run.start c.args.run.pages c.args.run.count _ _ c.requires.next))
