use Rattle.actor_scripts.proofs.Common.{keys_of, ◌++◌, ◌≡◌}
use Rattle.actor_scripts.proofs.actor_state.ActorState.spot_keys.Given as goal

-- those so far and those to come are all
abbrev pub invariant-loop-key : goal.invariant-loop-key
invariant-loop-key l = l.keys.items ++ l.key-iterator ≡ keys_of l.self.spots.entries
