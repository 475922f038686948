use Rattle.forced_marks.proofs.EventTold.{told_of_work, told_of_none}
use Rattle.forced_marks.proofs.laws.told_marks_are_the_historys.Goals as goal

pub returns-clause-work : goal.returns-clause-work
returns-clause-work c old new history client call reply shows told follows =
    told_of_work old new history client call reply shows told follows

pub returns-clause-none : goal.returns-clause-none
returns-clause-none c old new history client call reply shows told follows =
    told_of_none old new history client call reply shows told follows
