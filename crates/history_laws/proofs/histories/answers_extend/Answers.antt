use Rattle.history_laws.proofs.HistoryLaws.{legal_on}
use Rattle.history_laws.proofs.histories.answers_extend.Goals as goal

pub returns : goal.returns
returns c = legal_on
