use Rattle.client_actors.proofs.Common.{All, SlotHeldBy, arith, lies, subst, sym}
use Rattle.client_actors.proofs.ActorStepLaws.{answers, room_for, stored_owned}
use Rattle.client_actors.proofs.actor.ask.Goals as goal

pub store-requires : goal.store-requires
store-requires g c =
    let few = room_for c.args.client.now c.ask_on.new.client c.args.asked.now.call c.args.asked.now.slot (lies c.args.slots.now.items)
    (lies c.ask_on.new.slots.items) c.in-Ok.brought c.in-Ok.ensures.asked in
    omega (arith, few, c.requires.room, c.ask_on.ensures.len, c.ask_on.ensures.room)

pub returns-in-Ok-clause-asked : goal.returns-in-Ok-clause-asked
returns-in-Ok-clause-asked g c =
    answers c.args.client.now c.ask_on.new.client c.args.asked.now (lies c.args.slots.now.items) c.ask_on.new.slots.items
    c.store.new.slots.items c.in-Ok.brought c.in-Ok.ensures.asked c.store.ensures.slots

pub returns-in-Ok-clause-owned : goal.returns-in-Ok-clause-owned
returns-in-Ok-clause-owned g c =
    let id = c.args.client.now.id in
    subst (All (SlotHeldBy id)) (sym c.store.ensures.slots) (stored_owned id c.ask_on.new.slots.items c.in-Ok.brought c.ask_on.ensures.owned
    c.in-Ok.ensures.asked.owned)

pub returns-in-Ok-clause-len : goal.returns-in-Ok-clause-len
returns-in-Ok-clause-len g c =
    let few = room_for c.args.client.now c.ask_on.new.client c.args.asked.now.call c.args.asked.now.slot (lies c.args.slots.now.items)
    (lies c.ask_on.new.slots.items) c.in-Ok.brought c.in-Ok.ensures.asked in
    omega (arith, few, c.store.ensures.len, c.ask_on.ensures.len)
