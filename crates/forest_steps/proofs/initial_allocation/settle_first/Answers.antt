-- Each goal that is proved at once by the tactic that is named.
use Rattle.std.proofs.Common.{rules}
use Rattle.forest_steps.proofs.initial_allocation.settle_first.Goals as goal

pub lose_first-requires-clause-named : goal.lose_first-requires-clause-named
lose_first-requires-clause-named c = search rules

pub lose_first-requires-clause-there : goal.lose_first-requires-clause-there
lose_first-requires-clause-there c = search rules

pub allocate_root_unit-requires-clause-listed : goal.allocate_root_unit-requires-clause-listed
allocate_root_unit-requires-clause-listed c = search rules

pub allocate_root_unit-requires-clause-named : goal.allocate_root_unit-requires-clause-named
allocate_root_unit-requires-clause-named c = search rules

pub allocate_root_unit-requires-clause-there : goal.allocate_root_unit-requires-clause-there
allocate_root_unit-requires-clause-there c = search rules

pub allocate_root_unit-requires-clause-few : goal.allocate_root_unit-requires-clause-few
allocate_root_unit-requires-clause-few c = search rules

pub allocate_root_unit-requires-clause-room : goal.allocate_root_unit-requires-clause-room
allocate_root_unit-requires-clause-room c = search rules

pub lose_first-requires-clause-room : goal.lose_first-requires-clause-room
lose_first-requires-clause-room c = search rules
