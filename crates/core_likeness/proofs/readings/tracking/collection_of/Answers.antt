use Rattle.core_likeness.proofs.Common.{Entry, Option, ap, arith, born_by, collection_of_node, length, sym, take, timeline, unwrap_or, ℕ}
use Rattle.core_likeness.proofs.Common.{◌<◌, ◌∙◌}
use Rattle.core_likeness.proofs.TrackerLaws.{collection-more}
use Rattle.core_likeness.proofs.readings.tracking.collection_of.Goals as goal

-- by one entry more
pub loop-entry-preserved : goal.loop-entry-preserved
loop-entry-preserved c = λ pool.
    let within : c.loop-entry.entry-index < length c.args.entries.now = omega arith in
    c.unwrap_or-found.ensures
    ∙ (ap (λ (o : Option ℕ). unwrap_or o c.loop-entry.found) c.born_in.ensures
    ∙ (ap (unwrap_or (born_by c.args.key c.entry-item.result.1 c.entry-item.result.2)) (c.loop-entry.invariant pool)
    ∙ (ap (λ (e : Entry). unwrap_or (born_by c.args.key e.1 e.2)
    (collection_of_node (timeline pool (take c.loop-entry.entry-index c.args.entries.now)) c.args.key)) c.entry-item.is
    ∙ sym (collection-more pool c.args.entries.now c.loop-entry.entry-index c.entry-item.result within c.args.key))))
