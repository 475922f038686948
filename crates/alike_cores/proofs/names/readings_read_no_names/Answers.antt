use Rattle.alike_cores.proofs.Reading.{readings-renamed}
use Rattle.alike_cores.proofs.names.readings_read_no_names.Goals as goal

pub returns : goal.returns
returns c to id keeps ids s t same = readings-renamed to id keeps ids s t same
