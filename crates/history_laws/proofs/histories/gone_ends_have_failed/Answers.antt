use Rattle.std.proofs.Common.{[]}
use Rattle.history_laws.proofs.WholeLaws.{whole_history, whole_nothing}
use Rattle.history_laws.proofs.histories.gone_ends_have_failed.Goals as goal

pub returns : goal.returns
returns c pool limits history legal = (whole_history pool limits [] history legal.answers whole_nothing).failed
