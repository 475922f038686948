use Rattle.buffer_holds.proofs.Written.{page_taken}
use Rattle.buffer_holds.proofs.rows.take_row.Goals as goal

-- the entry at the place is gone
pub returns-in-Some-clause-taken : goal.returns-in-Some-clause-taken
returns-in-Some-clause-taken c =
    let stands = c.requires.stands in
    let gone = c.swap_remove_index.ensures in
    page_taken c.args.rows.now c.swap_remove_index.new.self c.args.owner c.args.place stands.0 stands.1 c.requires.distinct
    gone.entry gone.entries gone.updates gone.unique

pub returns-in_default-clause-taken : goal.returns-in_default-clause-taken
returns-in_default-clause-taken c =
    let stands = c.requires.stands in
    let gone = c.swap_remove_index.ensures in
    page_taken c.args.rows.now c.swap_remove_index.new.self c.args.owner c.args.place stands.0 stands.1 c.requires.distinct
    gone.entry gone.entries gone.updates gone.unique
