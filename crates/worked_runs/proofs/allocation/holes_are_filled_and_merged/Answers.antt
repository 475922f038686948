use Rattle.std.proofs.Common.{refl}
use Rattle.worked_runs.proofs.Legal.{is_legal, is_not_legal}
use Rattle.worked_runs.proofs.allocation.holes_are_filled_and_merged.Goals as goal

pub returns-clause-holes : goal.returns-clause-holes
returns-clause-holes c = is_legal _ _ _ refl refl refl

pub returns-clause-scattered_pages : goal.returns-clause-scattered_pages
returns-clause-scattered_pages c = is_legal _ _ _ refl refl refl

pub returns-clause-two_holes : goal.returns-clause-two_holes
returns-clause-two_holes c = is_legal _ _ _ refl refl refl

pub returns-clause-buffers_apart : goal.returns-clause-buffers_apart
returns-clause-buffers_apart c = is_legal _ _ _ refl refl refl

pub returns-clause-not_allocated : goal.returns-clause-not_allocated
returns-clause-not_allocated c = is_not_legal _ _ _ refl refl
