use Rattle.alike_cores.proofs.Progress.{goes_on_alike}
use Rattle.alike_cores.proofs.Shown.{events_alike}
use Rattle.alike_cores.proofs.laws.alike_cores_stay_alike.Goals as goal

pub returns-clause-named : goal.returns-clause-named
returns-clause-named c to id number keeps kept s t later again one other shows shows_too alike collection tracker client call reply told
    none names makes makes_too =
    events_alike to id number keeps kept s t later again one other shows shows_too alike collection tracker client call reply told none
    names makes makes_too

pub returns-clause-goes_on : goal.returns-clause-goes_on
returns-clause-goes_on c to id number keeps kept counted s t later again one other shows shows_too alike client call reply told none old
    makes makes_too =
    goes_on_alike to id number keeps kept counted s t later again one other shows shows_too alike client call reply told none old makes
    makes_too
