use Rattle.std.proofs.Common.{refl, ◌∙◌}
use Rattle.sm_script.specs.Scenes.{as_line, next_scene}
use Rattle.script_labels.specs.Texts.{reply_text}
use Rattle.sm_script.proofs.session.Session.ask.Goals as goal

pub returns-clause-ok : goal.returns-clause-ok
returns-clause-ok c = λ scene at. record {
  setting = record {
    pool = c.in_ok-note.ensures.pool ∙ c.in-Ok.ensures.after.pool;
    limits = c.in_ok-note.ensures.limits ∙ c.in-Ok.ensures.after.limits;
  };
  text = as_line (reply_text scene.names c.args.binds c.in-Ok.reply);
  gained = c.in_ok-note.ensures.text scene.names at.keeps;
  next = next_scene scene c.args.client c.args.call c.args.binds c.in-Ok.reply;
  gives = (c.in-Ok.reply, refl, refl);
  is_at = record {
    shows = c.in_ok-note.ensures.shows (next_scene scene c.args.client c.args.call c.args.binds c.in-Ok.reply).history
        (c.in-Ok.ensures.goes_on scene.history at.shows);
    keeps = c.in_ok-note.ensures.names scene.names at.keeps;
  };
}
