use Rattle.std.proofs.Common.{inl}
use Rattle.outcome_runs.proofs.telling.told_found.Goals as goal

-- what was found is told
pub returns-in-Ok-clause-ok : goal.returns-in-Ok-clause-ok
returns-in-Ok-clause-ok g c = (
  c.requires.good,
  inl (record {
    found = c.in-Ok-Some.found;
    search = rw c.in-Ok-Some.field-0-is at c.in-Ok-Some.ensures.ok;
    is_text = c.in-Ok.ensures;
  }),
)
