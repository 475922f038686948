use Rattle.actor_scripts.proofs.Common.{Known, ap, known, ◌∙◌}
use Rattle.actor_scripts.proofs.TableLaws.{noted, objects_noted}
use Rattle.actor_scripts.proofs.actor_state.ActorState.note_reply.Goals as goal

pub returns-clause-known : goal.returns-clause-known
returns-clause-known c =
    noted (known c.args.self.now) (known c.label_node.new.self) (known c.label_tracker.new.self) (known c.remove_spent.new.self)
    (known c.add_new_objects.new.self) c.on-on.result c.args.step c.args.asked.now c.args.reply.now c.on-on.ensures
    c.in_ok-label_node.ensures c.in_ok-label_tracker.ensures c.in_ok-remove_spent.ensures c.in_ok-add_new_objects.ensures

pub returns-clause-objects : goal.returns-clause-objects
returns-clause-objects c =
    ap (λ (d : Known). d.objects)
    (noted (known c.args.self.now) (known c.label_node.new.self) (known c.label_tracker.new.self) (known c.remove_spent.new.self)
    (known c.add_new_objects.new.self) c.on-on.result c.args.step c.args.asked.now c.args.reply.now c.on-on.ensures
    c.in_ok-label_node.ensures c.in_ok-label_tracker.ensures c.in_ok-remove_spent.ensures c.in_ok-add_new_objects.ensures)
    ∙ objects_noted (known c.args.self.now) c.args.step c.args.asked.now c.args.reply.now
