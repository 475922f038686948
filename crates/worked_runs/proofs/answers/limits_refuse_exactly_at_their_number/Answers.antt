use Rattle.std.proofs.Common.{refl}
use Rattle.worked_runs.proofs.Legal.{is_legal}
use Rattle.worked_runs.proofs.answers.limits_refuse_exactly_at_their_number.Goals as goal

pub returns-clause-nodes_full : goal.returns-clause-nodes_full
returns-clause-nodes_full c = is_legal _ _ _ refl refl refl

pub returns-clause-collections_full : goal.returns-clause-collections_full
returns-clause-collections_full c = is_legal _ _ _ refl refl refl

pub returns-clause-trackers_full : goal.returns-clause-trackers_full
returns-clause-trackers_full c = is_legal _ _ _ refl refl refl

pub returns-clause-handles_full : goal.returns-clause-handles_full
returns-clause-handles_full c = is_legal _ _ _ refl refl refl

pub returns-clause-history_full : goal.returns-clause-history_full
returns-clause-history_full c = is_legal _ _ _ refl refl refl
