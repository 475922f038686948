use Rattle.forced_marks.proofs.Reasons.{climb_ends, reason}
use Rattle.forced_marks.proofs.laws.each_taken_node_has_a_reason.Goals as goal

pub returns-clause-way : goal.returns-clause-way
returns-clause-way c = climb_ends

pub returns-clause-reason : goal.returns-clause-reason
returns-clause-reason c = reason
