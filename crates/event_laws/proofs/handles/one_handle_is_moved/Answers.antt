use Rattle.event_laws.proofs.HandleCaseLaws.{dup_case, drop_case, give_case, collect_case}
use Rattle.event_laws.proofs.handles.one_handle_is_moved.Goals as goal

pub returns-clause-doubled : goal.returns-clause-doubled
returns-clause-doubled c = dup_case

pub returns-clause-dropped : goal.returns-clause-dropped
returns-clause-dropped c = drop_case

pub returns-clause-given : goal.returns-clause-given
returns-clause-given c = give_case

pub returns-clause-collected : goal.returns-clause-collected
returns-clause-collected c = collect_case
