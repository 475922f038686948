use Rattle.play_search.proofs.Common.{ap, not, ◌∙◌}
use Rattle.sm_names.proofs.SamenessLaws.{none_is}
use Rattle.play_search.proofs.exploring.certainty_of.Goals as goal

-- without a doubt no outcome is missing
pub returns-clause-none : goal.returns-clause-none
returns-clause-none c = λ yes. c.in_ok-doubt.ensures.none (none_is _ (c.is_none.ensures ∙ ap not yes))
