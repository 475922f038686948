use Rattle.event_laws.proofs.Common.{[], part, rest_at, ◌∷◌}
use Rattle.event_laws.proofs.RecallLaws.{alike_more, apart_at, none_left}
use Rattle.event_laws.proofs.parts.Parts.differ.Goals as goal

pub returns-in_default : goal.returns-in_default
returns-in_default c =
    let none = none_left c.loop-event.left.now c.in_default.ensures.cases in
    apart_at c.loop-event.event c.args.own.now (part c.args.client c.args.self.now) c.loop-event.left.now
    (rest_at c.args.self.now c.args.client c.loop-event.event) []
    (c.step-told.result.0 ∷ rest_at c.args.self.now c.args.client c.step-told.result.1) c.loop-event.invariant.alike none
    c.step-told.ensures.rest c.step-told.ensures.event

pub returns-then-not-is : goal.returns-then-not-is
returns-then-not-is c =
    apart_at c.loop-event.event c.args.own.now (part c.args.client c.args.self.now) c.loop-event.left.now
    (rest_at c.args.self.now c.args.client c.loop-event.event)
    (c.in-Some.mine.now ∷ c.in-Some.more.now) (c.step-told.result.0 ∷ rest_at c.args.self.now c.args.client c.step-told.result.1)
    c.loop-event.invariant.alike c.in-Some.ensures.cases.0 c.step-told.ensures.rest
    (c.step-told.ensures.event, c.is.ensures.no c.if-not-is.true)

pub loop-event-preserved : goal.loop-event-preserved
loop-event-preserved c = record {
  stands = c.step-told.ensures.stands;
  alike = alike_more c.args.own.now (part c.args.client c.args.self.now) c.loop-event.left.now (rest_at c.args.self.now c.args.client
      c.loop-event.event) c.in-Some.more.now
      (rest_at c.args.self.now c.args.client c.step-told.result.1) c.in-Some.mine.now c.step-told.result.0 c.loop-event.invariant.alike
      c.in-Some.ensures.cases.0 c.step-told.ensures.rest (c.is.ensures.yes c.if-not-is.false);
}
