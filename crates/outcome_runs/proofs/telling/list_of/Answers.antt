use Rattle.outcome_runs.proofs.Reading.{its_actors}
use Rattle.outcome_runs.proofs.telling.list_of.Goals as goal

pub returns-in-Ok-clause-ok : goal.returns-in-Ok-clause-ok
returns-in-Ok-clause-ok c = its_actors _ _ _ c.in-Ok.ensures.actors
