use Rattle.alike_cores.proofs.Forcings.{forced-renamed}
use Rattle.alike_cores.proofs.names.forced_steps_read_no_names.Goals as goal

pub returns : goal.returns
returns c to keeps pool s = forced-renamed to keeps pool s
