use Rattle.history_laws.proofs.RestLaws.{every_rests}
use Rattle.history_laws.proofs.collections.every_collection_rests.Goals as goal

pub returns : goal.returns
returns c pool limits history legal = every_rests pool limits history legal.answers
