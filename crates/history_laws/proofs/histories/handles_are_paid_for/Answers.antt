use Rattle.std.proofs.Common.{[]}
use Rattle.history_laws.proofs.HandleLaws.{paid_history, paid_nothing}
use Rattle.history_laws.proofs.histories.handles_are_paid_for.Goals as goal

pub returns : goal.returns
returns c pool limits history legal = paid_history pool limits [] history legal.answers paid_nothing
