use Rattle.event_facts.proofs.Common.{Collection, IsStart, None, Option, Start, Work, ap, is_of, leaves_tracker_room, list_any, refl}
use Rattle.event_facts.proofs.Common.{subst, sym, work_of, ◌∙◌}
use Rattle.event_facts.proofs.Copied.{copied, none_paired, some_paired}
use Rattle.event_facts.proofs.marked_steps.copy_before.Goals as goal

-- nothing is changed
pub returns-in_default : goal.returns-in_default
returns-in_default c reply is =
    subst (λ o. IsStart c.args.core.now o None)
    (sym (none_paired (work_of c.args.core.now c.args.client c.args.call.now reply) (c.in_default.ensures.value reply is))) tt

-- the change forces nothing
pub returns-then-forces_nothing : goal.returns-then-forces_nothing
returns-then-forces_nothing c reply is =
    let o : Option Work = work_of c.args.core.now c.args.client c.args.call.now reply in
    subst (λ (x : Option Work). IsStart c.args.core.now x None)
    (sym (some_paired o c.in-Some.id c.in-Some.change (c.in-Some.ensures.value reply is)))
    (record {
      gone = c.events-events.ensures.legal.0;
      history = c.events-events.ensures.legal.1;
      shows = c.events-events.ensures.legal.2;
      may = c.in-Some.ensures.may;
      still = sym c.forces_nothing.ensures ∙ c.if-forces_nothing.true;
    })

-- the collection that is changed was copied
pub returns : goal.returns
returns c reply is =
    let o : Option Work = work_of c.args.core.now c.args.client c.args.call.now reply in
    let b : Start = record { change = c.in-Some.change; scene = c.in_ok-scene.scene; others = c.in_ok-others.others } in
    copied c.args.core.now o c.in-Some.id b (some_paired o c.in-Some.id c.in-Some.change (c.in-Some.ensures.value reply is))
    (record {
      change = refl;
      scene = c.in_ok-scene.ensures.value;
      others = c.in_ok-others.ensures.value;
      sound = c.in_ok-scene.ensures.sound;
      may = c.in-Some.ensures.may;
      room = ap (λ (x : Collection). leaves_tracker_room c.in-Some.change x.nodes) c.in_ok-scene.ensures.value ∙ c.in-Some.ensures.room;
      fresh = λ key f. ap (λ (x : Collection). list_any (is_of key) x.nodes) c.in_ok-scene.ensures.value ∙ c.in-Some.ensures.fresh key f;
    })
