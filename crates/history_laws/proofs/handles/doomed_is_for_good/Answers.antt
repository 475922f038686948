use Rattle.history_laws.proofs.Common.{Call, Reply, [], timeline, ◌++◌}
use Rattle.history_laws.proofs.DoomLaws.{doomed_on, home_on}
use Rattle.history_laws.proofs.GrowthLaws.{legal_grows_on}
use Rattle.history_laws.proofs.HistoryLaws.{AreAnswers-last}
use Rattle.history_laws.proofs.TakeLaws.{took, take_opens}
use Rattle.history_laws.proofs.handles.doomed_is_for_good.Goals as goal

pub returns-clause-taken : goal.returns-clause-taken
returns-clause-taken c pool limits history client collection strength set call legal =
    (took limits (timeline pool history) client collection strength set call (AreAnswers-last pool limits [] history
    (client, call, Reply.Taken collection strength set) legal.answers).1).set_is

pub returns-clause-opened : goal.returns-clause-opened
returns-clause-opened c pool limits history client collection strength set key legal =
    take_opens limits (timeline pool history) client collection strength set key (AreAnswers-last pool limits [] history
    (client, Call.Take key, Reply.Taken collection strength set) legal.answers).1

pub returns-clause-by_take : goal.returns-clause-by_take
returns-clause-by_take c pool limits history client collection strength set call legal =
    (took limits (timeline pool history) client collection strength set call (AreAnswers-last pool limits [] history
    (client, call, Reply.Taken collection strength set) legal.answers).1).by_take

pub returns-clause-doomed : goal.returns-clause-doomed
returns-clause-doomed c pool limits history more legal buffer h =
    let g = legal_grows_on pool limits history more legal in
    doomed_on pool limits (timeline pool history) g.first buffer h (timeline pool (history ++ more)) g.then

pub returns-clause-home : goal.returns-clause-home
returns-clause-home c pool limits history more legal buffer h =
    let g = legal_grows_on pool limits history more legal in
    home_on pool limits (timeline pool history) g.first buffer h (timeline pool (history ++ more)) g.then
