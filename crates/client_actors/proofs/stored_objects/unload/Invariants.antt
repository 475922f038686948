use Rattle.client_actors.proofs.Common.{both, held_in, last_objects_first, sorted, vec_len, ◌≡◌}
use Rattle.client_actors.specs.ActorSteps.{ListsHaveRoom}
use Rattle.client_actors.proofs.stored_objects.unload.Given as goal

-- what is in its list, with what is left, is all
abbrev pub invariant-unloading : goal.invariant-unloading
invariant-unloading g l = record {
  all : both (held_in l.held) (sorted (last_objects_first l.slots.items))
      ≡ both (held_in l.initial.held) (sorted (last_objects_first l.initial.slots.items));
  room : ListsHaveRoom l.held (vec_len l.slots);
}

abbrev pub decreases-unloading : goal.decreases-unloading
decreases-unloading g l = vec_len l.slots
