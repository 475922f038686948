use Rattle.alike_cores.proofs.Answering.{answer-alike}
use Rattle.alike_cores.proofs.names.answers_read_no_names.Goals as goal

pub returns : goal.returns
returns c to id number limits r s alike ids numbers client new call = answer-alike to id number limits r s alike ids numbers client new call
