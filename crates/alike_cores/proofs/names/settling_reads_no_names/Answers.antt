use Rattle.alike_cores.proofs.Settlings.{settles-renamed}
use Rattle.alike_cores.proofs.names.settling_reads_no_names.Goals as goal

pub returns : goal.returns
returns c to id keeps pool before after alike others d last settles =
    settles-renamed to id keeps pool before after alike others d last settles
