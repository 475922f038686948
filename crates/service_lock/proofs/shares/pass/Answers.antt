-- Each goal that is proved at once by the tactic that is named.
use Rattle.service_lock.proofs.Common.{rules}
use Rattle.service_lock.proofs.shares.pass.Goals as goal

pub invariant_of-from : goal.invariant_of-from
invariant_of-from c = search rules

pub invariant_of-from-in-Weak : goal.invariant_of-from-in-Weak
invariant_of-from-in-Weak c = search rules

pub invariant_of-to : goal.invariant_of-to
invariant_of-to c = search rules

pub invariant_of-to-in-Weak : goal.invariant_of-to-in-Weak
invariant_of-to-in-Weak c = search rules

pub returns-in-Strong-clause-passed : goal.returns-in-Strong-clause-passed
returns-in-Strong-clause-passed c = search rules

pub returns-in-Strong-clause-state : goal.returns-in-Strong-clause-state
returns-in-Strong-clause-state c = search rules

pub returns-in-Weak-clause-passed : goal.returns-in-Weak-clause-passed
returns-in-Weak-clause-passed c = search rules

pub returns-in-Weak-clause-state : goal.returns-in-Weak-clause-state
returns-in-Weak-clause-state c = search rules

pub transfer-requires-clause-has_a_part : goal.transfer-requires-clause-has_a_part
transfer-requires-clause-has_a_part c = search rules

pub transfer-requires-clause-has_amount : goal.transfer-requires-clause-has_amount
transfer-requires-clause-has_amount c = search rules

pub transfer-requires-clause-to_has_a_part : goal.transfer-requires-clause-to_has_a_part
transfer-requires-clause-to_has_a_part c = search rules

pub transfer-requires-in-Weak-clause-has_a_part : goal.transfer-requires-in-Weak-clause-has_a_part
transfer-requires-in-Weak-clause-has_a_part c = search rules

pub transfer-requires-in-Weak-clause-has_amount : goal.transfer-requires-in-Weak-clause-has_amount
transfer-requires-in-Weak-clause-has_amount c = search rules

pub transfer-requires-in-Weak-clause-to_has_a_part : goal.transfer-requires-in-Weak-clause-to_has_a_part
transfer-requires-in-Weak-clause-to_has_a_part c = search rules
