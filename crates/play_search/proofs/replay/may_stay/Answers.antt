use Rattle.play_search.proofs.Common.{Some, ap, false, must_leave, option_map, option_map_or, stage_of, stages_of, sym, ◌∙◌, ◌≡◌}
use Rattle.std.specs.Prelude.{option_copied, slice_get}
use Rattle.play_search.proofs.replay.may_stay.Goals as goal

-- the stage of the actor is that of the play
pub returns : goal.returns
returns c = λ yes.
    let at_end = c.args.ground.now.vanishing.at_end in
    let plans = c.args.ground.now.plans.now in
    let there : Some (stage_of c.in-Some.one.now) ≡ slice_get (stages_of c.args.play.now) c.args.actor =
    sym (ap (λ o. option_map stage_of (option_copied o)) c.in-Some.is) ∙ c.actor.ensures in
    sym (ap (λ o. option_map_or (must_leave at_end plans c.args.actor) o false) there)
    ∙ (sym c.in_ok-must_leave.ensures ∙ c.if-branch.false)
