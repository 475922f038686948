use Rattle.actor_scripts.proofs.Common.{keys_of, ◌++◌, ◌≡◌}
use Rattle.actor_scripts.proofs.actor_state.ActorState.node_labels.Given as goal

-- those so far and those to come are all
abbrev pub invariant-loop-label : goal.invariant-loop-label
invariant-loop-label l = l.labels.items ++ l.label-iterator ≡ keys_of l.self.nodes.entries
