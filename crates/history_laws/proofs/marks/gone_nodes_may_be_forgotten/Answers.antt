use Rattle.history_laws.proofs.ForgetLaws.{next-left}
use Rattle.history_laws.proofs.marks.gone_nodes_may_be_forgotten.Goals as goal

pub returns : goal.returns
returns c = next-left
