-- The run lies in the list of held ones.
use Rattle.std.proofs.Common.{◌∙◌, subst}
use Rattle.buffer_pool.specs.Holdings.{HasRun}
use Rattle.test_part_rows.proofs.pages.give_back_from.Goals as goal

pub give_back_run-requires-clause-held : goal.give_back_run-requires-clause-held
give_back_run-requires-clause-held c =
    subst (HasRun c.args.start c.args.pages c.run_from-count.result) (c.deref.ensures.value ∙ c.in-Ok.ensures.ok) c.run_from-count.ensures
