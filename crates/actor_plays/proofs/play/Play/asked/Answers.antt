use Rattle.actor_plays.proofs.Common.{None, Some, Stage, ap, option_and_then, option_map, stage_of, stages_of, step_call, sym, ◌∙◌, ◌≡◌}
use Rattle.std.specs.Prelude.{option_copied, slice_get}
use Rattle.actor_scripts.specs.Tables.{known}
use Rattle.actor_plays.proofs.play.Play.asked.Goals as goal

pub returns-in-Some : goal.returns-in-Some
returns-in-Some c =
    let there : Some (stage_of c.in-Some.one.now) ≡ slice_get (stages_of c.args.self.now) c.args.actor =
    sym (ap (λ o. option_map stage_of (option_copied o)) c.in-Some.is) ∙ c.actor.ensures in
    c.asked.ensures
    ∙ (ap (λ cs. step_call cs (known c.in-Some.one.now.state) c.args.step) c.deref.ensures.value
    ∙ ap (option_and_then (λ (stage : Stage). step_call c.args.self.now.clients.items stage.known c.args.step)) there)

pub returns-in-None : goal.returns-in-None
returns-in-None c =
    let none : None ≡ slice_get (stages_of c.args.self.now) c.args.actor =
    sym (ap (λ o. option_map stage_of (option_copied o)) c.in-None.is) ∙ c.actor.ensures in
    ap (option_and_then (λ (stage : Stage). step_call c.args.self.now.clients.items stage.known c.args.step)) none
