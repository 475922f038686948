use Rattle.outcome_texts.proofs.report.push_counts.Goals as goal

-- the parts are those of the text, one after another
pub returns : goal.returns
returns c = rw c.len.ensures at (rw c.end_of_counts.ensures at (rw c.extent.ensures at (rw c.certificate.ensures at
    (rw c.orders_told.ensures at c.push_parts.ensures))))
