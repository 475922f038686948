-- The record, the core and the books go on together by one event.
use Rattle.service_lock.proofs.Common.{Entry, HandleMoves, IsLegal, List, StateInvariant, Strength, Strong, View, Weak, [], ap, arith}
use Rattle.service_lock.proofs.Common.{length-append, moves_by, refl, rules, subst, sym, ◌++◌, ◌∙◌, ◌∷◌, ◌≡◌}
use Rattle.service_lock.specs.States.{view_after}
use Rattle.core_state.proofs.theorem.Leads.{makes}
use Rattle.service_lock.proofs.ComingLaws.{came_on, came_refused}
use Rattle.service_lock.proofs.SoundLaws.{fits, pushed, there, written}
use Rattle.service_lock.proofs.event.apply.Goals as goal

-- the books of handles have room for what the event opens, and hold what it takes out of a parcel

pub write-requires-2-clause-fits : goal.write-requires-2-clause-fits
write-requires-2-clause-fits g c =
    fits _ _ Strong c.args.client c.args.call c.step_into.new.out c.state.inside.log.items _ _ c.events-2.result
    c.state.invariant.shown.legal c.moves_of.ensures c.state.invariant.strong
    (omega (arith, c.events.ensures.shown c.state.inside.log.items c.state.invariant.shown, c.if-events.false)) (omega arith)

pub write-requires-2-clause-there : goal.write-requires-2-clause-there
write-requires-2-clause-there g c =
    let shown = c.in_ok-step_into.ensures.goes_on c.state.inside.log.items c.state.invariant.shown in
    there _ _ _ _ Strong c.args.client c.args.call c.step_into.new.out c.state.inside.log.items _ c.in_ok-step_into.ensures.after.pool
    c.state.invariant.shown.legal shown.legal c.moves_of.ensures _ c.state.invariant.strong

pub write-requires-3-clause-fits : goal.write-requires-3-clause-fits
write-requires-3-clause-fits g c =
    fits _ _ Weak c.args.client c.args.call c.step_into.new.out c.state.inside.log.items _ _ c.events-2.result
    c.state.invariant.shown.legal c.moves_of-2.ensures c.state.invariant.weak
    (omega (arith, c.events.ensures.shown c.state.inside.log.items c.state.invariant.shown, c.if-events.false)) (omega arith)

pub write-requires-3-clause-there : goal.write-requires-3-clause-there
write-requires-3-clause-there g c =
    let shown = c.in_ok-step_into.ensures.goes_on c.state.inside.log.items c.state.invariant.shown in
    there _ _ _ _ Weak c.args.client c.args.call c.step_into.new.out c.state.inside.log.items _ c.in_ok-step_into.ensures.after.pool
    c.state.invariant.shown.legal shown.legal c.moves_of-2.ensures _ c.state.invariant.weak

-- the record has one entry more, which the core shows, and each book counts it
pub invariant_of-state-2 : goal.invariant_of-state-2
invariant_of-state-2 g c =
    let log : List Entry = c.state.inside.log.items in
    let e : Entry = (c.args.client, c.args.call, c.step_into.new.out) in
    let items : c.push_reserved.new.self.items ≡ log ++ e ∷ [] =
    pushed log c.reserve.new.self.items c.push_reserved.new.self.items e c.reserve.ensures.items c.push_reserved.ensures.items in
    let shown = c.in_ok-step_into.ensures.goes_on log c.state.invariant.shown in
    let goes = λ (strength : Strength) (moves : HandleMoves) (is : moves ≡ moves_by strength e.1 e.2).
    written _ _ _ _ strength e.0 e.1 e.2 log moves c.in_ok-step_into.ensures.after.pool c.state.invariant.shown.legal shown.legal is in
    let sound : StateInvariant g.E.Setup.pages g.E.Setup.limits c.step_into.new.self c.state.inside.limits
    (log ++ e ∷ []) c.write.new.self c.write-2.new.self c.write-3.new.self =
    record {
      asked = (c.in_ok-step_into.ensures.after.pool ∙ c.state.invariant.asked.0, c.state.invariant.asked.1);
      shown = shown;
      came = came_on log c.state.inside.core c.step_into.new.self c.args.client c.args.call c.step_into.new.out c.state.invariant.came
          (makes c.state.inside.core c.step_into.new.self c.args.client c.args.call c.step_into.new.out
          c.step_into.result c.in_ok-step_into.was c.step_into.ensures.full c.in_ok-step_into.ensures.answer
          c.in_ok-step_into.ensures.after);
      limited = c.in_ok-step_into.ensures.after.limits ∙ c.state.invariant.limited;
      counted = omega (arith, c.write.ensures.written.total, c.state.invariant.counted, length-append log (e ∷ []));
      cut = (
        c.write-2.ensures.left ∙ c.state.invariant.cut.0 ∙ sym c.write.ensures.left,
        c.write-3.ensures.left ∙ c.state.invariant.cut.1 ∙ sym c.write.ensures.left,
      );
      strong = goes Strong c.moves_of.result c.moves_of.ensures c.state.inside.strong c.state.invariant.strong c.write-2.new.self
          c.write-2.ensures.written;
      weak = goes Weak c.moves_of-2.result c.moves_of-2.ensures c.state.inside.weak c.state.invariant.weak c.write-3.new.self
          c.write-3.ensures.written;
    } in
    subst (λ l. StateInvariant g.E.Setup.pages g.E.Setup.limits c.step_into.new.self c.state.inside.limits l
    c.write.new.self c.write-2.new.self c.write-3.new.self) (sym items) sound

pub returns-clause-made : goal.returns-clause-made
returns-clause-made g c =
    let log : List Entry = c.state.inside.log.items in
    let e : Entry = (c.args.client, c.args.call, c.step_into.new.out) in
    let items : c.push_reserved.new.self.items ≡ log ++ e ∷ [] =
    pushed log c.reserve.new.self.items c.push_reserved.new.self.items e c.reserve.ensures.items c.push_reserved.ensures.items in
    let ids = c.in_ok-step_into.ensures.untaken in
    let pools = c.in_ok-step_into.ensures.after.pool in
    let seen : View = record {
      pool = c.state.inside.core.pool;
      limits = c.state.inside.limits;
      history = log;
      untaken = c.state.inside.core.trackers.untaken;
      parts = c.state.inside.events.left;
    } in
    let next : ◌≡◌ {A = View} (record {
      pool = c.step_into.new.self.pool;
      limits = c.state.inside.limits;
      history = c.push_reserved.new.self.items;
      untaken = c.step_into.new.self.trackers.untaken;
      parts = c.write.new.self.left;
    }) (view_after seen e.0 e.1 e.2) =
    λ i. record { pool = pools i; limits = c.state.inside.limits; history = items i; untaken = ids i; parts = c.write.ensures.left i } in
    next ∙ ap (λ (s : View). view_after s e.0 e.1 e.2) c.state.view_is

pub returns-clause-legal : goal.returns-clause-legal
returns-clause-legal g c =
    let log : List Entry = c.state.inside.log.items in
    let e : Entry = (c.args.client, c.args.call, c.step_into.new.out) in
    let items : c.push_reserved.new.self.items ≡ log ++ e ∷ [] =
    pushed log c.reserve.new.self.items c.push_reserved.new.self.items e c.reserve.ensures.items c.push_reserved.ensures.items in
    let shown = c.in_ok-step_into.ensures.goes_on log c.state.invariant.shown in
    let limited : c.step_into.new.self.limits ≡ c.state.inside.limits = c.in_ok-step_into.ensures.after.limits ∙ c.state.invariant.limited in
    subst (λ l. IsLegal c.step_into.new.self.pool c.state.inside.limits l) (sym items)
    (subst (λ b. IsLegal c.step_into.new.self.pool b (log ++ e ∷ [])) limited shown.legal)

pub write-requires-clause-enough : goal.write-requires-clause-enough
write-requires-clause-enough c = search rules

pub write-requires-clause-there : goal.write-requires-clause-there
write-requires-clause-there c = search rules

pub invariant_of-state : goal.invariant_of-state
invariant_of-state c = search (rules, came_refused)

pub invariant_of-units : goal.invariant_of-units
invariant_of-units c = search rules

pub returns-clause-counts : goal.returns-clause-counts
returns-clause-counts c = search rules

pub returns-clause-fault : goal.returns-clause-fault
returns-clause-fault g c = tt

pub returns-clause-full : goal.returns-clause-full
returns-clause-full c = search rules

pub returns-clause-joins : goal.returns-clause-joins
returns-clause-joins c = search rules

pub returns-clause-kind : goal.returns-clause-kind
returns-clause-kind c = search rules

pub returns-then-events-clause-counts : goal.returns-then-events-clause-counts
returns-then-events-clause-counts g c = tt

pub returns-then-events-clause-fault : goal.returns-then-events-clause-fault
returns-then-events-clause-fault g c = (refl, refl)

pub returns-then-events-clause-full : goal.returns-then-events-clause-full
returns-then-events-clause-full c = search rules

pub returns-then-events-clause-joins : goal.returns-then-events-clause-joins
returns-then-events-clause-joins g c = tt

pub returns-then-events-clause-kind : goal.returns-then-events-clause-kind
returns-then-events-clause-kind g c = tt

pub returns-then-events-clause-legal : goal.returns-then-events-clause-legal
returns-then-events-clause-legal c = search rules

pub returns-then-events-clause-made : goal.returns-then-events-clause-made
returns-then-events-clause-made g c = tt

pub returns-then-is_err-clause-counts : goal.returns-then-is_err-clause-counts
returns-then-is_err-clause-counts g c = tt

pub returns-then-is_err-clause-fault : goal.returns-then-is_err-clause-fault
returns-then-is_err-clause-fault c = search rules

pub returns-then-is_err-clause-full : goal.returns-then-is_err-clause-full
returns-then-is_err-clause-full c = search rules

pub returns-then-is_err-clause-joins : goal.returns-then-is_err-clause-joins
returns-then-is_err-clause-joins g c = tt

pub returns-then-is_err-clause-kind : goal.returns-then-is_err-clause-kind
returns-then-is_err-clause-kind g c = tt

pub returns-then-is_err-clause-legal : goal.returns-then-is_err-clause-legal
returns-then-is_err-clause-legal c = search rules

pub returns-then-is_err-clause-made : goal.returns-then-is_err-clause-made
returns-then-is_err-clause-made g c = tt

pub write-requires-2-clause-enough : goal.write-requires-2-clause-enough
write-requires-2-clause-enough c = search rules

pub write-requires-2-clause-part : goal.write-requires-2-clause-part
write-requires-2-clause-part c = search rules

pub write-requires-3-clause-enough : goal.write-requires-3-clause-enough
write-requires-3-clause-enough c = search rules

pub write-requires-3-clause-part : goal.write-requires-3-clause-part
write-requires-3-clause-part c = search rules

pub write-requires-clause-part : goal.write-requires-clause-part
write-requires-clause-part c = search rules
