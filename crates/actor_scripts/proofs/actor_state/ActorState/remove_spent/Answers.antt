use Rattle.actor_scripts.proofs.Common.{known, sym, ◌∙◌}
use Rattle.actor_scripts.proofs.TableLaws.{spent_so}
use Rattle.actor_scripts.proofs.actor_state.ActorState.remove_spent.Goals as goal

pub returns-in_ok-remove_handle : goal.returns-in_ok-remove_handle
returns-in_ok-remove_handle c =
    spent_so (known c.args.self.now) (known c.remove_object.new.self) (known c.remove_handle.new.self) c.args.asked.now c.args.reply.now
    (sym c.spends_object.ensures ∙ c.if-spends_object.true) c.remove_object.ensures c.in_ok-remove_handle.ensures
