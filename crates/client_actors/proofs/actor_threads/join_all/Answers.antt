use Rattle.client_actors.proofs.Common.{All, CanStart, ap, arith, id_there, map, subst, sym, ◌∙◌}
use Rattle.std.proofs.lemmas.List.Elements.{All-push}
use Rattle.client_actors.proofs.RunLaws.{map_push}
use Rattle.client_actors.proofs.actor_threads.join_all.Goals as goal

pub loop-preserved : goal.loop-preserved
loop-preserved g c =
    let so = c.loop.invariant in
    let new = c.push_reserved-in-loop.ensures in
    record {
      ready = subst (All CanStart) (sym new.items) (All-push CanStart c.loop.actors.items _ so.ready
          (record { own = c.in_ok-client.ensures.0; share = c.in_ok-client.ensures.1 }));
      ids = c.push_reserved.ensures.items ∙ (map_push id_there c.loop.actors.items c.loop.clients.items _ c.id.result so.ids c.id.ensures
          ∙ sym (ap (map id_there) new.items));
      len = omega (arith, so.len, new.len);
      clients = c.push_reserved.ensures.capacity ∙ so.clients;
      actors = new.capacity ∙ so.actors;
    }
