use Rattle.actor_scripts.proofs.Common.{MAX_BUFFERS, handles_from, known, with_objects, ◌-◌, ◌≡◌}
use Rattle.actor_scripts.specs.ActorStates.{handles_of_set}
use Rattle.actor_scripts.proofs.actor_state.ActorState.push_handles.Given as goal

-- with the handles that are still to come it will be as it is to be
abbrev pub invariant-pushing : goal.invariant-pushing
invariant-pushing l =
    with_objects (known l.self) (handles_from l.collection l.strength l.set l.index (MAX_BUFFERS - l.index))
    ≡ with_objects (known l.fn.self) (handles_of_set l.collection l.strength l.set)
