use Rattle.std.proofs.Common.{◌≡◌, ◌∙◌, ap, sym, Some}
use Rattle.std.proofs.lemmas.Result.{on_ok_weaker, IfErr-weaker}
use Rattle.script_labels.specs.declared.act.Act.{Act}
use Rattle.script_labels.specs.Names.{act_in}
use Rattle.sm_script.specs.Scenes.{Scene}
use Rattle.sm_script.specs.Sessions.{IsAt, IsStopped}
use Rattle.sm_script.proofs.Advancing.{gains-answer, call-stopped}
use Rattle.sm_script.proofs.session.Session.answer.Goals as goal

pub returns-in-Some-Ask-clause-ok : goal.returns-in-Some-Ask-clause-ok
returns-in-Some-Ask-clause-ok c = on_ok_weaker c.ask.result
    (λ gains scene at.
    let good : act_in scene.names c.args.line.now ≡ Some (Act.Ask c.in-Some-Ask.client c.in-Some-Ask.call c.in-Some-Ask.binds) =
    sym (c.read.ensures scene at) ∙ c.in-Some-Ask.is ∙ ap Some c.in-Some-Ask.field-0-is in
    gains-answer _ _ _ _ _ _ scene good c.clear.ensures.items (gains scene at))
    c.ask.ensures.ok

pub returns-in-Some-Ask-clause-err : goal.returns-in-Some-Ask-clause-err
returns-in-Some-Ask-clause-err c = IfErr-weaker c.ask.result _
    (λ stop. (scene : Scene) → IsAt c.args.self.now scene → IsStopped c.args.self.now c.args.line.now scene stop)
    (λ stop why scene at.
    let good : act_in scene.names c.args.line.now ≡ Some (Act.Ask c.in-Some-Ask.client c.in-Some-Ask.call c.in-Some-Ask.binds) =
    sym (c.read.ensures scene at) ∙ c.in-Some-Ask.is ∙ ap Some c.in-Some-Ask.field-0-is in
    call-stopped c.args.self.now c.args.line.now scene _ _ _ stop good at why)
    c.ask.ensures.err
