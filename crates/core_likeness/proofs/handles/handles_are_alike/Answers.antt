use Rattle.core_likeness.proofs.Common.{new_id, refl}
use Rattle.core_likeness.proofs.HandleLaws.{open-alike, total-alike}
use Rattle.core_likeness.proofs.Swapping.{ids-apart}
use Rattle.core_likeness.proofs.handles.handles_are_alike.Goals as goal

-- by the counts of all buffers on which an entry brought handles
pub returns-clause-open_of : goal.returns-clause-open_of
returns-clause-open_of c = λ h.
    open-alike (new_id c.args.names.now) (ids-apart c.args.names.now) c.args.one.now c.args.other.now c.args.first.now c.args.second.now
    c.requires.one c.requires.other (c.if-not-are_counted.ensures refl) (c.are_counted-2.ensures h)

-- so of all clients together
pub returns-clause-total : goal.returns-clause-total
returns-clause-total c = λ h.
    total-alike (new_id c.args.names.now) (ids-apart c.args.names.now) c.args.one.now c.args.other.now c.args.first.now c.args.second.now
    c.requires.one c.requires.other (c.if-not-are_counted.ensures refl) (c.are_counted-2.ensures h)
