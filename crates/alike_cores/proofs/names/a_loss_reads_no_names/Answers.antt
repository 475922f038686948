use Rattle.alike_cores.proofs.Renamings.{loss-renamed}
use Rattle.alike_cores.proofs.names.a_loss_reads_no_names.Goals as goal

pub returns : goal.returns
returns c to id keeps fault nodes = loss-renamed to id keeps fault nodes
