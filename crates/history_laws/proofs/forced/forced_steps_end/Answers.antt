use Rattle.history_laws.proofs.SettledLaws.{settled_rests, Settles-one}
use Rattle.history_laws.proofs.forced.forced_steps_end.Goals as goal

pub returns-clause-rest : goal.returns-clause-rest
returns-clause-rest c pool collection marks sound = (settled_rests pool collection marks sound).0

pub returns-clause-end : goal.returns-clause-end
returns-clause-end c pool collection marks sound = (settled_rests pool collection marks sound).1

pub returns-clause-only : goal.returns-clause-only
returns-clause-only c = Settles-one
