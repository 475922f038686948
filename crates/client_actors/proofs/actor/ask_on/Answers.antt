use Rattle.client_actors.proofs.Common.{lies, subst}
use Rattle.actor_scripts.specs.ActorStates.{Fits}
use Rattle.client_actors.proofs.ActorStepLaws.{asks_there, within}
use Rattle.client_actors.proofs.actor.ask_on.Goals as goal

pub returns-in-Some-clause-asked : goal.returns-in-Some-clause-asked
returns-in-Some-clause-asked g c =
    let call = c.args.asked.now.call in
    let items = c.args.slots.now.items in
    let slot = c.in-Some.slot in
    let fits = subst (λ s. Fits (lies items) s call) c.in-Some.is c.requires.fits in
    asks_there c.args.client.now c.ask_there.new.client call c.args.asked.now.slot items slot c.index_mut.result.now c.ask_there.new.on
    c.ask_there.result
    c.in-Some.is (within items slot call fits) c.index_mut.ensures.value c.ask_there.ensures.did
