use Rattle.alike_cores.proofs.Composing.{alike-alike, alike-same}
use Rattle.alike_cores.proofs.laws.being_alike_composes.Goals as goal

pub returns-clause-itself : goal.returns-clause-itself
returns-clause-itself c s = alike-same s

pub returns-clause-composed : goal.returns-clause-composed
returns-clause-composed c to more id on number next s t u one other = alike-alike to more id on number next s t u one other
