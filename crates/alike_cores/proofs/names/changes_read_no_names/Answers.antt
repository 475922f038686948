use Rattle.alike_cores.proofs.Changing.{changed-renamed, end_put-renamed, given-renamed, tidied-renamed}
use Rattle.alike_cores.proofs.names.changes_read_no_names.Goals as goal

pub returns-clause-changed : goal.returns-clause-changed
returns-clause-changed c to id keeps change key d = changed-renamed to id keeps change key d

pub returns-clause-given : goal.returns-clause-given
returns-clause-given c to id keeps before after alike d = given-renamed to id keeps before after alike d

pub returns-clause-ends : goal.returns-clause-ends
returns-clause-ends c to id keeps key end d = end_put-renamed to id keeps key end d

pub returns-clause-forgotten : goal.returns-clause-forgotten
returns-clause-forgotten c to id keeps d = tidied-renamed to id d
