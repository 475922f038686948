use Rattle.outcome_runs.proofs.telling.searched.Goals as goal

-- the limits are the greatest
pub returns-in-Ok-clause-ok : goal.returns-in-Ok-clause-ok
returns-in-Ok-clause-ok g c = record {
  real = rw c.full.ensures at c.in-Ok.ensures.real;
  states = c.in-Ok.ensures.states;
  none_missing = rw c.full.ensures at c.in-Ok.ensures.none_missing;
  asked = c.in-Ok.ensures.asked;
  doubted = c.in-Ok.ensures.doubted;
}
