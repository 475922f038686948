use Rattle.core_state.proofs.Common.{Call, Reply, every_rests, legal_grows, timeline}
use Rattle.core_state.proofs.views.SameAnswers.{answer_is}
use Rattle.core_state.proofs.handles.Taken.{stood, not_empty, some_opened}
use Rattle.core_state.proofs.laws.a_take_is_never_empty.Goals as goal

pub returns-clause-taken : goal.returns-clause-taken
returns-clause-taken c s before more client collection strength set key shows =
    let t = stood s.pool s.limits before more (client, Call.Take key, Reply.Taken collection strength set) shows.legal.answers in
    not_empty s.pool s.limits (timeline s.pool before) t.grown t.rest s.limits client collection strength set key t.answer

pub returns-clause-opened : goal.returns-clause-opened
returns-clause-opened c s before more client collection strength set key shows =
    let t = stood s.pool s.limits before more (client, Call.Take key, Reply.Taken collection strength set) shows.legal.answers in
    some_opened s.pool s.limits (timeline s.pool before) t.grown t.rest s.limits client collection strength set key t.answer

pub returns-clause-next : goal.returns-clause-next
returns-clause-next c s history shows limits client collection strength set key answer =
    let grown = legal_grows s.pool s.limits history shows.legal in
    not_empty s.pool s.limits (timeline s.pool history) grown (every_rests s.pool s.limits history shows.legal.answers) limits client
    collection strength set key
    (answer_is s (timeline s.pool history) shows.shown s.limits grown limits client (Call.Take key) (Reply.Taken collection strength set)
    answer)
