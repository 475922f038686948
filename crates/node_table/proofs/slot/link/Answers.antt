use Rattle.node_table.proofs.Common.{HasEntry, IfSome, Some, ap, last_under, subst, sym, with_adopted, ◌∙◌}
use Rattle.node_table.proofs.Steps.{has, links_more}
use Rattle.node_table.proofs.slot.link.Goals as goal

-- the last child has its entry after a write elsewhere
pub set_next-requires : goal.set_next-requires
set_next-requires g c =
    has c.args.slots.now c.adopt.new.slots c.in-Some.above.slot (with_adopted (Some c.in-Some-adopt.before) c.args.key)
    c.in-Some-adopt.ensures.edits c.in-Some-adopt.before.slot
    (subst (λ o. IfSome o (λ k. HasEntry c.args.slots.now k.slot))
    (ap (last_under c.args.slots.now.slots) c.in-Some.is ∙ sym c.in-Some-adopt.ensures.last) c.requires.last)

pub returns-clause-links : goal.returns-clause-links
returns-clause-links g c =
    rw c.in-Some.is
    (links_more c.args.slots.now c.adopt.new.slots c.set_next.new.slots c.in-Some.above c.args.key c.in-Some-adopt.before
    c.in-Some-adopt.ensures.edits c.set_next.ensures)
