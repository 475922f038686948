use Rattle.std.proofs.Common.{refl}
use Rattle.worked_runs.proofs.Legal.{is_legal}
use Rattle.worked_runs.proofs.allocation.no_more_than_64_buffers_are_allocated.Goals as goal

pub returns-clause-most_buffers : goal.returns-clause-most_buffers
returns-clause-most_buffers c = is_legal _ _ _ refl refl refl

pub returns-clause-too_many_buffers : goal.returns-clause-too_many_buffers
returns-clause-too_many_buffers c = is_legal _ _ _ refl refl refl

pub returns-clause-too_many_for_the_pool_too : goal.returns-clause-too_many_for_the_pool_too
returns-clause-too_many_for_the_pool_too c = is_legal _ _ _ refl refl refl
