use Rattle.std.proofs.Common.{rules, ◌≡◌, ◌∙◌, ◌∷◌}
use Rattle.client_actors.proofs.ScriptLaws.{ran_more}
use Rattle.client_actors.proofs.actor_run.run_steps.Goals as goal

pub each_step-preserved : goal.each_step-preserved
each_step-preserved g c =
    let so = c.each_step.invariant in
    let one = c.in_ok-take_step.ensures.taken in
    let next : c.each_step.rest.now ≡ c.in-Some.step.now ∷ c.in-Some.more.now = search rules in
    record {
      ran = ran_more c.args.playing.now.clients.now c.args.playing.now.most c.args.steps.now c.each_step.rest.now
          c.in-Some.more.now c.in-Some.step.now c.each_step.actor
          c.take_step.new.actor so.ran next one;
      aware = one.aware;
      sound = c.take_step.ensures.sound;
      id = c.take_step.ensures.id ∙ so.id;
    }
