use Rattle.std.proofs.Common.{[]}
use Rattle.history_laws.proofs.WholeLaws.{parent_collection, whole_history, whole_nothing}
use Rattle.history_laws.proofs.histories.lines_hold_together.Goals as goal

pub returns-clause-collection : goal.returns-clause-collection
returns-clause-collection c pool limits history legal child parent up =
    let w = whole_history pool limits [] history legal.answers whole_nothing in
    parent_collection _ w.sound w.together child parent up

pub returns-clause-gone : goal.returns-clause-gone
returns-clause-gone c pool limits history legal = (whole_history pool limits [] history legal.answers whole_nothing).below
