use Rattle.node_table.proofs.Common.{HasEntry, IfSome, None, arith, common_steps, subst, with_first, with_next}
use Rattle.node_table.proofs.Steps.{has, joins_first, joins_last, joins_mid}
use Rattle.node_table.proofs.slot.join.Goals as goal

-- a slot that had an entry has one after a write elsewhere
pub set_prev-requires : goal.set_prev-requires
set_prev-requires g c =
    has c.args.slots.now c.set_first.new.slots c.args.parent.slot (with_first c.args.next) c.set_first.ensures
    c.in-None-Some.after.slot
    (subst (λ o. IfSome o (λ k. HasEntry c.args.slots.now k.slot)) c.in-None-Some.is-1 c.requires.next)

pub set_last-requires : goal.set_last-requires
set_last-requires g c = has c.args.slots.now c.set_next.new.slots c.in-Some-None.before.slot (with_next None)
    c.set_next.ensures c.args.parent.slot c.requires.parent

pub set_prev-requires-in-Some-Some : goal.set_prev-requires-in-Some-Some
set_prev-requires-in-Some-Some g c =
    has c.args.slots.now c.set_next-in-Some-Some.new.slots c.in-Some-Some.before.slot (with_next c.args.next)
    c.set_next-in-Some-Some.ensures c.in-Some-Some.after.slot
    (subst (λ o. IfSome o (λ k. HasEntry c.args.slots.now k.slot)) c.in-Some-Some.is-1 c.requires.next)

pub returns-in-None-Some : goal.returns-in-None-Some
returns-in-None-Some g c =
    rw (c.in-None-Some.is-0, c.in-None-Some.is-1)
    (joins_first c.args.slots.now c.set_first.new.slots c.set_prev.new.slots c.args.parent c.in-None-Some.after
    (rw c.in-None-Some.is-1 at c.set_first.ensures) c.set_prev.ensures)

pub returns-in-Some-None : goal.returns-in-Some-None
returns-in-Some-None g c =
    rw (c.in-Some-None.is-0, c.in-Some-None.is-1)
    (joins_last c.args.slots.now c.set_next.new.slots c.set_last.new.slots c.args.parent c.in-Some-None.before
    c.set_next.ensures (rw c.in-Some-None.is-0 at c.set_last.ensures))

pub returns-in-Some-Some : goal.returns-in-Some-Some
returns-in-Some-Some g c =
    rw (c.in-Some-Some.is-0, c.in-Some-Some.is-1)
    (joins_mid c.args.slots.now c.set_next-in-Some-Some.new.slots c.set_prev-in-Some-Some.new.slots c.args.parent c.in-Some-Some.before
    c.in-Some-Some.after
    (rw c.in-Some-Some.is-1 at c.set_next-in-Some-Some.ensures) (rw c.in-Some-Some.is-0 at c.set_prev-in-Some-Some.ensures))

-- by arithmetic and the usual steps
pub returns-in-None-None : goal.returns-in-None-None
returns-in-None-None g c = grind (arith, common_steps)
