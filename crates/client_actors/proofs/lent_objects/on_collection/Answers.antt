use Rattle.client_actors.proofs.Common.{All, Call, Grip, Reply, ap, handle_seen, indices_in, map, refl, subst, sym, ◌∙◌, ◌≡◌}
use Rattle.actor_scripts.specs.ActorStates.{FitsCollection}
use Rattle.client_actors.proofs.ObjectCallLaws.{grips_owned, seen_all}
use Rattle.client_actors.proofs.lent_objects.on_collection.Goals as goal

pub returns-in-Ok-take : goal.returns-in-Ok-take
returns-in-Ok-take g c =
    let took = c.in-Ok-take.ensures in
    let old = c.args.client.now in
    let key = c.args.collection.now.key in
    let fits : FitsCollection key (Call.Take c.in-Take.field-0) = subst (FitsCollection key) c.in-Take.is c.requires.fits in
    let call : Call.Take key ≡ c.args.call = ap Call.Take (sym fits) ∙ sym c.in-Take.is in
    let reply = Reply.Taken took.taken.collection took.taken.strength took.taken.set in
    rw (sym call) (record {
      reply = reply;
      made = took.made;
      stays = refl;
      objects = λ on. ap (map handle_seen) took.brought ∙ seen_all _ _ _ _ took;
      owned = subst (All (λ (h : Grip). h.client ≡ old.id)) (sym took.brought) (grips_owned _ _ _ _ took (indices_in took.taken.set));
    })
