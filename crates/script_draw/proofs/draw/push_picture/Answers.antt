use Rattle.std.proofs.Common.{◌++◌, ◌∙◌, Option, subst}
use Rattle.std.proofs.lemmas.Result.{on_ok_weaker}
use Rattle.event_facts.specs.declared.event.Event.{Event}
use Rattle.picture_model.specs.Shown.{ShowsEvent}
use Rattle.script_draw.specs.Draws.{picture_in}
use Rattle.script_draw.proofs.draw.push_picture.Goals as goal

-- the picture shows what the picture state knows
pub returns : goal.returns
returns c = on_ok_weaker c.push_format.result
    (λ put names keeps calls blank history shows knows seen. record {
      picture_state = c.args.scroll.now.picture_state;
      seen = seen;
      knows = knows;
      picture = c.in_ok-picture.picture;
      shows = subst (λ (event : Option Event). ShowsEvent c.args.scroll.now.event_writer.session.core
          names c.args.scroll.now.picture_state event
          c.in_ok-picture.picture) c.as_ref-event.ensures.value (c.in_ok-picture.ensures.shows names keeps);
      kept = c.in_ok-picture.ensures.kept history shows knows;
      text_is = put names keeps calls
          ∙ (λ i. blank i
          ++ picture_in c.args.format c.args.scroll.now.event_writer.session.core names (c.deref.ensures.value i) c.in_ok-picture.picture);
    })
    c.push_format.ensures
