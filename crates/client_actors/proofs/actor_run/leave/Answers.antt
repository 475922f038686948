use Rattle.client_actors.proofs.Common.{AllHeldBy, ap, both, last_objects_first, sorted, subst, sym, ◌∙◌}
use Rattle.client_actors.proofs.ActorStepLaws.{left_owned, left_turned}
use Rattle.client_actors.proofs.actor_run.leave.Goals as goal

pub returns-clause-held : goal.returns-clause-held
returns-clause-held g c =
    let items = c.args.actor.slots.items in
    c.unload.ensures ∙ (ap (λ h. both h (sorted (last_objects_first c.reverse.new.self.items))) c.requires.none
    ∙ ap sorted (ap last_objects_first c.reverse.ensures.items ∙ left_turned items))

pub returns-clause-owned : goal.returns-clause-owned
returns-clause-owned g c =
    let id = c.args.actor.client.id in
    let items = c.args.actor.slots.items in
    subst (AllHeldBy id) (sym (returns-clause-held g c)) (left_owned id items c.requires.owned)
