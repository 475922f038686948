use Rattle.outcome_texts.proofs.script.push_head.Goals as goal

-- the parts are those of the text, one after another
pub returns : goal.returns
returns c = rw c.len.ensures at (rw c.can_vanish.ensures at (rw c.runs_end.ensures at c.push_parts.ensures))
