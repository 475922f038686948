-- Each goal that is proved at once by the tactic that is named.
use Rattle.std.proofs.Common.{rules}
use Rattle.forced_marks.proofs.next_step.choose.Goals as goal

pub returns-in-None-clause-sized : goal.returns-in-None-clause-sized
returns-in-None-clause-sized c = search rules

pub returns-in-None-clause-value : goal.returns-in-None-clause-value
returns-in-None-clause-value c = search rules

pub returns-in-Some-abandoned-clause-sized : goal.returns-in-Some-abandoned-clause-sized
returns-in-Some-abandoned-clause-sized c = search rules

pub returns-in-Some-abandoned-clause-value : goal.returns-in-Some-abandoned-clause-value
returns-in-Some-abandoned-clause-value c = search rules

pub returns-in-Some-clause-sized : goal.returns-in-Some-clause-sized
returns-in-Some-clause-sized c = search rules

pub returns-in-Some-clause-value : goal.returns-in-Some-clause-value
returns-in-Some-clause-value c = search rules

pub returns-in-Some-next-clause-sized : goal.returns-in-Some-next-clause-sized
returns-in-Some-next-clause-sized c = search rules

pub returns-in-Some-next-clause-value : goal.returns-in-Some-next-clause-value
returns-in-Some-next-clause-value c = search rules

pub returns-in-Some-waiting_root-clause-sized : goal.returns-in-Some-waiting_root-clause-sized
returns-in-Some-waiting_root-clause-sized c = search rules

pub returns-in-Some-waiting_root-clause-value : goal.returns-in-Some-waiting_root-clause-value
returns-in-Some-waiting_root-clause-value c = search rules

pub returns-in_default-buffers-clause-sized : goal.returns-in_default-buffers-clause-sized
returns-in_default-buffers-clause-sized c = search rules

pub returns-in_default-buffers-clause-value : goal.returns-in_default-buffers-clause-value
returns-in_default-buffers-clause-value c = search rules
