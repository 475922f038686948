use Rattle.event_texts.proofs.Common.{Act, EventWriter, IsAt, List, None, Option, Scene, Session, Some, [], act_in, ap, on_ok_weaker}
use Rattle.event_texts.proofs.Common.{refl, subst, sym, ℕ, ◌∙◌, ◌≡◌}
use Rattle.std.proofs.lemmas.Result.{IfErr-weaker}
use Rattle.script_labels.specs.declared.stop.LineStop.{LineStop}
use Rattle.sm_script.specs.Sessions.{Gains, IsStopped}
use Rattle.sm_script.proofs.Advancing.{gains-answer}
use Rattle.event_texts.proofs.Told.{told-call, told-look}
use Rattle.event_texts.proofs.event_writer.EventWriter.answer.Goals as goal

-- the call of the line answers it, and what is told of its event changes nothing
pub returns-in-Ok-tell-clause-ok : goal.returns-in-Ok-tell-clause-ok
returns-in-Ok-tell-clause-ok c = λ scene at.
    let act : Act = Act.Ask c.in-Some-Ask.client c.in-Some-Ask.call c.in-Some-Ask.binds in
    let good : act_in scene.names c.args.line.now ≡ Some act =
    sym (c.read.ensures scene at) ∙ c.in-Some-Ask.is ∙ ap Some c.in-Some-Ask.field-0-is in
    gains-answer c.args.self.now.session c.tell.new.self.session c.args.line.now [] c.take.new.reply.items act scene good refl
    (subst (λ (s : Session). Gains c.args.self.now.session s act [] c.take.new.reply.items scene) (sym c.tell.ensures.session)
    (c.in-Ok.ensures.ok scene at))

-- the facts are those of the event of the call
pub returns-in-Ok-tell-clause-tells : goal.returns-in-Ok-tell-clause-tells
returns-in-Ok-tell-clause-tells c = λ scene lines knows recalls.
    told-call c.args.self.now c.tell.new.self c.args.number c.args.line.now c.take.new.reply.items c.tell.new.facts.items scene lines
    knows recalls c.take.new.self c.in-Some-Ask.client c.in-Some-Ask.call c.in-Some-Ask.binds c.in-Ok.event
    (sym (c.read.ensures scene knows.is_at) ∙ c.in-Some-Ask.is ∙ ap Some c.in-Some-Ask.field-0-is)
    (c.in-Ok.ensures.ok scene knows.is_at).setting (c.in-Ok.ensures.text scene.names knows.is_at.keeps)
    (c.in-Ok.ensures.knows scene knows) c.in-Ok.ensures.event c.take.ensures.losses c.take.ensures.deeds c.take.ensures.limits
    c.tell.ensures.session c.tell.ensures.labels
    c.tell.ensures.failures
    c.in-Ok-tell.ensures.recalls
    (λ names ls keeps calls kept. c.in-Ok-tell.ensures.facts names ls keeps calls kept c.clear.ensures.items)

-- a line that makes no call has no facts
pub returns-in-Some-Nothing-clause-tells : goal.returns-in-Some-Nothing-clause-tells
returns-in-Some-Nothing-clause-tells c = on_ok_weaker c.answer.result
    (λ advances scene lines knows recalls.
    let new : EventWriter = record {
      session = c.answer.new.self;
      labels = c.args.self.now.labels;
      failures = c.args.self.now.failures;
      losses = c.args.self.now.losses;
      deeds = c.args.self.now.deeds;
      limits = c.args.self.now.limits;
    } in
    told-look c.args.self.now new c.args.number c.args.line.now c.answer.new.reply.items c.clear.new.self.items scene lines
    knows recalls Act.Nothing
    (sym (c.read.ensures scene knows.is_at) ∙ c.in-Some-Nothing.is ∙ ap Some c.in-Some-Nothing.field-0-is)
    (λ pool text next gives. gives.1) (advances scene knows.is_at) refl refl refl refl refl (λ next. (c.clear.ensures.items, refl)))
    c.answer.ensures.ok

pub returns-in-Some-Poll-clause-tells : goal.returns-in-Some-Poll-clause-tells
returns-in-Some-Poll-clause-tells c = on_ok_weaker c.answer-in-Some-Poll.result
    (λ advances scene lines knows recalls.
    let new : EventWriter = record {
      session = c.answer-in-Some-Poll.new.self;
      labels = c.args.self.now.labels;
      failures = c.args.self.now.failures;
      losses = c.args.self.now.losses;
      deeds = c.args.self.now.deeds;
      limits = c.args.self.now.limits;
    } in
    told-look c.args.self.now new c.args.number c.args.line.now c.answer-in-Some-Poll.new.reply.items c.clear.new.self.items scene lines
    knows recalls (Act.Poll c.in-Some-Poll.field-0-0)
    (sym (c.read.ensures scene knows.is_at) ∙ c.in-Some-Poll.is ∙ ap Some c.in-Some-Poll.field-0-is)
    (λ pool text next gives. gives.3) (advances scene knows.is_at) refl refl refl refl refl (λ next. (c.clear.ensures.items, refl)))
    c.answer-in-Some-Poll.ensures.ok

pub returns-in-Some-Show-clause-tells : goal.returns-in-Some-Show-clause-tells
returns-in-Some-Show-clause-tells c = on_ok_weaker c.answer-in-Some-Show.result
    (λ advances scene lines knows recalls.
    let new : EventWriter = record {
      session = c.answer-in-Some-Show.new.self;
      labels = c.args.self.now.labels;
      failures = c.args.self.now.failures;
      losses = c.args.self.now.losses;
      deeds = c.args.self.now.deeds;
      limits = c.args.self.now.limits;
    } in
    told-look c.args.self.now new c.args.number c.args.line.now c.answer-in-Some-Show.new.reply.items c.clear.new.self.items scene lines
    knows recalls (Act.Show c.in-Some-Show.field-0-0)
    (sym (c.read.ensures scene knows.is_at) ∙ c.in-Some-Show.is ∙ ap Some c.in-Some-Show.field-0-is)
    (λ pool text next gives. gives.1) (advances scene knows.is_at) refl refl refl refl refl (λ next. (c.clear.ensures.items, refl)))
    c.answer-in-Some-Show.ensures.ok

-- a line that asks for something is not stopped as a bad one, which asks for nothing
not_bad : (session : Session) (line : List ℕ) (scene : Scene) (stop : LineStop) (act : Act) (read : Option Act) →
    read ≡ act_in scene.names line → read ≡ Some act → IsStopped session line scene stop → stop ≡ LineStop.BadLine → ⊥
not_bad session line scene stop act read is found why bad =
    let none : act_in scene.names line ≡ None = subst (IsStopped session line scene) bad why in
    let some : act_in scene.names line ≡ Some act = sym is ∙ found in
    cc

pub returns-in-Some-Ask-clause-same : goal.returns-in-Some-Ask-clause-same
returns-in-Some-Ask-clause-same c = λ scene at is. absurd (c.in-Err.ensures.err.0 is)

pub returns-in-Some-Nothing-clause-same : goal.returns-in-Some-Nothing-clause-same
returns-in-Some-Nothing-clause-same c = IfErr-weaker c.answer.result _
    (λ stop. (scene : Scene) → IsAt c.args.self.now.session scene → stop ≡ LineStop.BadLine →
    c.answer.new.self ≡ c.args.self.now.session)
    (λ stop why scene at is. absurd (not_bad c.args.self.now.session c.args.line.now scene stop _ c.read.result
    (c.read.ensures scene at) c.in-Some-Nothing.is (why scene at) is))
    c.answer.ensures.err

pub returns-in-Some-Poll-clause-same : goal.returns-in-Some-Poll-clause-same
returns-in-Some-Poll-clause-same c = IfErr-weaker c.answer-in-Some-Poll.result _
    (λ stop. (scene : Scene) → IsAt c.args.self.now.session scene → stop ≡ LineStop.BadLine →
    c.answer-in-Some-Poll.new.self ≡ c.args.self.now.session)
    (λ stop why scene at is. absurd (not_bad c.args.self.now.session c.args.line.now scene stop _ c.read.result
    (c.read.ensures scene at) c.in-Some-Poll.is (why scene at) is))
    c.answer-in-Some-Poll.ensures.err

pub returns-in-Some-Show-clause-same : goal.returns-in-Some-Show-clause-same
returns-in-Some-Show-clause-same c = IfErr-weaker c.answer-in-Some-Show.result _
    (λ stop. (scene : Scene) → IsAt c.args.self.now.session scene → stop ≡ LineStop.BadLine →
    c.answer-in-Some-Show.new.self ≡ c.args.self.now.session)
    (λ stop why scene at is. absurd (not_bad c.args.self.now.session c.args.line.now scene stop _ c.read.result
    (c.read.ensures scene at) c.in-Some-Show.is (why scene at) is))
    c.answer-in-Some-Show.ensures.err
