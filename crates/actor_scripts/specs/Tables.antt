-- The queues in a table, and the table of an actor.
use Rattle.std.specs.Prelude.{ℕ, ◌==◌, List, [], Option, Some, None}
use Rattle.std.specs.Map.{lookup}
use Rattle.std.specs.declared.collections.VecDeque.{VecDeque}
use Rattle.sm_names.specs.declared.keys.BufferName.{BufferName}
use Rattle.sm_names.specs.declared.keys.Strength.{Strength}
use Rattle.sm_names.specs.Sameness.{same_buffer, same_key}
use Rattle.actor_scripts.specs.declared.actor_state.ActorState.{ActorState}
use Rattle.actor_scripts.specs.declared.queues.Queues.{Queues}
use Rattle.actor_scripts.specs.ActorStates.{Known}

-- the slots in a queue, none where there is no queue
abbrev pub slots_of : {Z : Type 0} → Option (VecDeque ℕ Z) → List ℕ
slots_of None = []
slots_of (Some queue) = queue.items

-- the slots of the handles of each buffer, first come first
abbrev pub queues_of : Queues → BufferName → List ℕ
queues_of queues buffer = slots_of (lookup (same_buffer buffer) queues.slots.entries)

-- of both strengths
abbrev pub both_of : Queues → Queues → Strength → BufferName → List ℕ
both_of strong weak Strength.Strong = queues_of strong
both_of strong weak Strength.Weak = queues_of weak

-- what is known by the table
abbrev pub known : ActorState → Known
known state = record {
  nodes = λ label. lookup (λ other. label == other) state.nodes.entries;
  trackers = λ label. lookup (λ other. label == other) state.trackers.entries;
  objects = state.objects.items;
  spots = λ key. lookup (same_key key) state.spots.entries;
  handles = both_of state.strong state.weak;
}
