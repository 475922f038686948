use Rattle.actor_scripts.proofs.Common.{lookup, same_key, ◌==◌}
use Rattle.actor_scripts.proofs.TableLaws.{both_none}
use Rattle.actor_scripts.proofs.actor_state.ActorState.new.Goals as goal

pub returns : goal.returns
returns c = λ i. record {
  nodes = λ label. lookup (λ other. label == other) (c.new.ensures.empty i);
  trackers = λ label. lookup (λ other. label == other) (c.new-2.ensures.empty i);
  objects = c.new-3.ensures.items i;
  spots = λ key. lookup (same_key key) (c.new-4.ensures.empty i);
  handles = λ strength. both_none c.new-5.result c.new-6.result c.new-5.ensures c.new-6.ensures strength i;
}
