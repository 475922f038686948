use Rattle.service_lock.proofs.Common.{arith, rules}
use Rattle.service_lock.proofs.SoundLaws.{begins}
use Rattle.service_lock.proofs.state.State.new.Goals as goal

-- nothing was made yet
pub invariant_of-result : goal.invariant_of-result
invariant_of-result g c =
    begins _ _ _ _ _ _ _ _ (search rules) (search rules) (search rules) (search rules) (search rules) (search rules) (search rules)
    (search rules) (search rules) (search rules) (omega arith) (omega arith)

pub new-requires-2-clause-name : goal.new-requires-2-clause-name
new-requires-2-clause-name c = search rules

pub new-requires-2-clause-parts : goal.new-requires-2-clause-parts
new-requires-2-clause-parts c = search rules

pub new-requires-2-clause-some : goal.new-requires-2-clause-some
new-requires-2-clause-some c = search rules

pub new-requires-3-clause-name : goal.new-requires-3-clause-name
new-requires-3-clause-name c = search rules

pub new-requires-3-clause-parts : goal.new-requires-3-clause-parts
new-requires-3-clause-parts c = search rules

pub new-requires-3-clause-some : goal.new-requires-3-clause-some
new-requires-3-clause-some c = search rules

pub new-requires-4-clause-name : goal.new-requires-4-clause-name
new-requires-4-clause-name c = search rules

pub new-requires-4-clause-parts : goal.new-requires-4-clause-parts
new-requires-4-clause-parts c = search rules

pub new-requires-4-clause-some : goal.new-requires-4-clause-some
new-requires-4-clause-some c = search rules

pub returns : goal.returns
returns c = search rules
