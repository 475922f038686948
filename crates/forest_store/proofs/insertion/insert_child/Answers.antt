-- Each goal that is proved at once by the tactic that is named.
use Rattle.std.proofs.Common.{rules}
use Rattle.forest_store.proofs.insertion.insert_child.Goals as goal

pub insert_node-requires-clause-first : goal.insert_node-requires-clause-first
insert_node-requires-clause-first c = search rules

pub insert_node-requires-clause-parent : goal.insert_node-requires-clause-parent
insert_node-requires-clause-parent c = search rules

pub overflow_add-entry : goal.overflow_add-entry
overflow_add-entry c = search rules

pub overflow_add-len : goal.overflow_add-len
overflow_add-len c = search rules

pub returns-clause-bears : goal.returns-clause-bears
returns-clause-bears c = search rules

pub returns-clause-entry : goal.returns-clause-entry
returns-clause-entry c = search rules

pub returns-clause-err_entry : goal.returns-clause-err_entry
returns-clause-err_entry c = search rules

pub returns-clause-err_table : goal.returns-clause-err_table
returns-clause-err_table c = search rules

pub returns-clause-notes : goal.returns-clause-notes
returns-clause-notes c = search rules

pub returns-then-is_err-2-clause-bears : goal.returns-then-is_err-2-clause-bears
returns-then-is_err-2-clause-bears c = search rules

pub returns-then-is_err-2-clause-entry : goal.returns-then-is_err-2-clause-entry
returns-then-is_err-2-clause-entry c = search rules

pub returns-then-is_err-2-clause-err_entry : goal.returns-then-is_err-2-clause-err_entry
returns-then-is_err-2-clause-err_entry c = search rules

pub returns-then-is_err-2-clause-err_table : goal.returns-then-is_err-2-clause-err_table
returns-then-is_err-2-clause-err_table c = search rules

pub returns-then-is_err-2-clause-notes : goal.returns-then-is_err-2-clause-notes
returns-then-is_err-2-clause-notes c = search rules

pub returns-then-is_err-clause-bears : goal.returns-then-is_err-clause-bears
returns-then-is_err-clause-bears c = search rules

pub returns-then-is_err-clause-entry : goal.returns-then-is_err-clause-entry
returns-then-is_err-clause-entry c = search rules

pub returns-then-is_err-clause-err_entry : goal.returns-then-is_err-clause-err_entry
returns-then-is_err-clause-err_entry c = search rules

pub returns-then-is_err-clause-err_table : goal.returns-then-is_err-clause-err_table
returns-then-is_err-clause-err_table c = search rules

pub returns-then-is_err-clause-notes : goal.returns-then-is_err-clause-notes
returns-then-is_err-clause-notes c = search rules
