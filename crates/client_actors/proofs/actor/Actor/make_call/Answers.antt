use Rattle.client_actors.proofs.Common.{false, is_err, rules, sym, ◌∙◌, ◌≡◌}
use Rattle.client_actors.proofs.ScriptLaws.{has_made, on_ok}
use Rattle.client_actors.proofs.actor.Actor.make_call.Goals as goal

pub returns-clause-made : goal.returns-clause-made
returns-clause-made g c =
    let fine : is_err c.note_reply.result ≡ false = search rules in
    has_made c.args.step c.args.asked.now c.in-Some.reply c.args.self.now
    (record { client = c.ask.new.client; slots = c.ask.new.slots; held = c.make_room.new.held; state = c.note_reply.new.self })
    c.make_room.new.slots.items
    c.in_ok-ask.ensures.asked c.make_room.ensures.slots.0 (sym c.in-Some.is
    ∙ c.last.ensures.value) (on_ok c.note_reply.result _ fine c.note_reply.ensures.known)
    (on_ok c.note_reply.result _ fine c.note_reply.ensures.objects)
