-- Each goal that is proved at once by the tactic that is named.
use Rattle.service_lock.proofs.Common.{rules}
use Rattle.service_lock.proofs.state.units.Goals as goal

pub invariant_of-result : goal.invariant_of-result
invariant_of-result c = search rules

pub invariant_of-state : goal.invariant_of-state
invariant_of-state c = search rules

pub returns-clause-empty : goal.returns-clause-empty
returns-clause-empty c = search rules

pub returns-clause-few : goal.returns-clause-few
returns-clause-few c = search rules

pub returns-clause-none : goal.returns-clause-none
returns-clause-none c = search rules

pub returns-clause-part : goal.returns-clause-part
returns-clause-part c = search rules

pub returns-then-left-eq0-clause-empty : goal.returns-then-left-eq0-clause-empty
returns-then-left-eq0-clause-empty c = search rules

pub returns-then-left-eq0-clause-few : goal.returns-then-left-eq0-clause-few
returns-then-left-eq0-clause-few c = search rules

pub returns-then-left-eq0-clause-none : goal.returns-then-left-eq0-clause-none
returns-then-left-eq0-clause-none c = search rules

pub returns-then-left-eq0-clause-part : goal.returns-then-left-eq0-clause-part
returns-then-left-eq0-clause-part c = search rules
