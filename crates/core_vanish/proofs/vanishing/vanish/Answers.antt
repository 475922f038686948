use Rattle.core_vanish.proofs.Common.{Err, HasLeft, IsBegun, Result, VanishFault, ap, arith, ◌-◌}
use Rattle.core_vanish.proofs.VanishParts.{vanishes_by, stops_by}
use Rattle.core_vanish.proofs.PhaseLemmas.{events_grew}
use Rattle.core_vanish.proofs.vanishing.vanish.Goals as goal

pub overflow_sub-made : goal.overflow_sub-made
overflow_sub-made c =
    let grew = events_grew c.args.core.now c.vanish_by_events-end.new.core (λ marks events later. HasLeft c.args.client events later)
    (λ fault marks events later. IsBegun c.args.client fault events) c.vanish_by_events-end.result c.vanish_by_events-end.ensures.ok
    c.vanish_by_events-end.ensures.err in
    omega (arith, grew, c.events.ensures.value, c.events-before.ensures.value)

pub returns-in-Ok-clause-ok : goal.returns-in-Ok-clause-ok
returns-in-Ok-clause-ok c =
    let grew = events_grew c.args.core.now c.vanish_by_events-end.new.core (λ marks events later. HasLeft c.args.client events later)
    (λ fault marks events later. IsBegun c.args.client fault events) c.vanish_by_events-end.result c.vanish_by_events-end.ensures.ok
    c.vanish_by_events-end.ensures.err in
    vanishes_by c.args.client (c.events.result - c.events-before.result) c.args.core.now c.vanish_by_events-end.new.core
    c.events-before.ensures.legal (omega (arith, grew, c.events.ensures.value, c.events-before.ensures.value)) c.in-Ok.ensures.ok

pub returns-in-Err-clause-err : goal.returns-in-Err-clause-err
returns-in-Err-clause-err c =
    let grew = events_grew c.args.core.now c.vanish_by_events-end.new.core (λ marks events later. HasLeft c.args.client events later)
    (λ fault marks events later. IsBegun c.args.client fault events) c.vanish_by_events-end.result c.vanish_by_events-end.ensures.ok
    c.vanish_by_events-end.ensures.err in
    let failed : VanishFault → Result (Unit {0}) VanishFault = λ fault. Err fault in
    stops_by c.args.client (c.events.result - c.events-before.result) c.in-Err.fault c.args.core.now c.vanish_by_events-end.new.core
    c.events-before.ensures.legal (omega (arith, grew, c.events.ensures.value, c.events-before.ensures.value)) c.in-Err.ensures.err
    (λ e. c.in-Err.ensures.full (ap failed e))
