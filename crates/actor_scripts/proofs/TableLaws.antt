-- Tables, and what is known by them.
use Rattle.actor_scripts.proofs.Common.{ActorObject, Bool, BufferName, Known, List, MAX_BUFFERS, None, Option, Some, Step, StepCall}
use Rattle.actor_scripts.proofs.Common.{Strength, [], ap, arith, bit_at, false, handles_from, if◌then◌else◌, map, refl, sym, true}
use Rattle.actor_scripts.proofs.Common.{with_objects, ℕ, ◌++◌, ◌+◌, ◌-◌, ◌<◌, ◌==◌, ◌∙◌, ◌∷◌, ◌≡◌}
use Rattle.std.proofs.Common.{suc, append_assoc, append-nil}
use Rattle.actor_scripts.specs.declared.queues.Queues.{Queues}
use Rattle.sm_names.specs.declared.messages.Reply.{Reply}
use Rattle.actor_scripts.specs.ActorStates.{state_after, emptied, new_objects, handle_of, on_of, spends_object, without_spent}
use Rattle.actor_scripts.specs.ActorStates.{objects_after, with_node_label, with_object, with_tracker_label, without_handle}
use Rattle.actor_scripts.specs.ActorStates.{without_object}
use Rattle.actor_scripts.specs.Tables.{both_of, queues_of}

-- with no handle of either strength there is none
pub both_none : (strong weak : Queues) → queues_of strong ≡ (λ buffer. []) → queues_of weak ≡ (λ buffer. []) →
    (strength : Strength) → both_of strong weak strength ≡ (λ buffer. [])
both_none strong weak none none' Strength.Strong = none
both_none strong weak none none' Strength.Weak = none'

module _ (collection : ℕ) (strength : Strength) (set index : ℕ) where
  -- the handles from this index on
  abbrev pub rest_from : List ActorObject
  rest_from = handles_from collection strength set index (MAX_BUFFERS - index)

  -- and those behind it
  abbrev pub behind : List ActorObject
  behind = handles_from collection strength set (index + 1) (MAX_BUFFERS - (index + 1))

  -- this one
  abbrev pub handle_here : ActorObject
  handle_here = ActorObject.Handle (record { collection = collection; index = index }) strength

  -- this many from this one on, which the set has
  pub from_with : (count : ℕ) → (bit_at set index == 1) ≡ true → handles_from collection strength set index (suc count) ≡
      handle_here ∷ handles_from collection strength set (index + 1) count
  unfolding handles_from
  from_with count is = rw is refl

  -- or has not
  pub from_without : (count : ℕ) → (bit_at set index == 1) ≡ false → handles_from collection strength set index (suc count) ≡
      handles_from collection strength set (index + 1) count
  unfolding handles_from
  from_without count is = rw is refl

  -- no handles
  pub from_none : handles_from collection strength set index 0 ≡ []
  unfolding handles_from
  from_none = refl

  -- behind one that the set has
  pub step_with : index < MAX_BUFFERS → (bit_at set index == 1) ≡ true → rest_from ≡ handle_here ∷ behind
  step_with low is =
      let e : MAX_BUFFERS - index ≡ suc (MAX_BUFFERS - (index + 1)) = omega arith in
      ap (λ n. handles_from collection strength set index n) e ∙ from_with (MAX_BUFFERS - (index + 1)) is

  -- behind one that it has not
  pub step_without : index < MAX_BUFFERS → (bit_at set index == 1) ≡ false → rest_from ≡ behind
  step_without low is =
      let e : MAX_BUFFERS - index ≡ suc (MAX_BUFFERS - (index + 1)) = omega arith in
      ap (λ n. handles_from collection strength set index n) e ∙ from_without (MAX_BUFFERS - (index + 1)) is

  -- at the end there are none
  pub at_end : index ≡ MAX_BUFFERS → rest_from ≡ []
  at_end is =
      let e : MAX_BUFFERS - index ≡ 0 = omega arith in
      ap (λ n. handles_from collection strength set index n) e ∙ from_none

-- an object that is gone
pub spent_so : (state without next : Known) (asked : StepCall) (reply : Reply) → spends_object asked.call reply ≡ true →
    without ≡ without_object state asked.slot → next ≡ without_handle without (handle_of asked.call) →
    next ≡ without_spent state asked reply
spent_so state without next asked reply so gone remove_handle = rw (remove_handle, gone, so) refl

-- what a reply changes, one after another
pub noted : (state node tracker next last : Known) (on : Option ActorObject) (step : Step) (asked : StepCall) (reply : Reply) →
    on ≡ on_of state.objects asked.slot → node ≡ with_node_label state step reply → tracker ≡ with_tracker_label node step reply →
    next ≡ without_spent tracker asked reply → last ≡ with_objects next (new_objects on asked.call reply) →
    last ≡ state_after state step asked reply
noted state node tracker next last on step asked reply is a b c d = rw (d, c, b, a, is) refl

-- one more object
pub object_more : (state : Known) (object : ActorObject) → (with_object state object).objects ≡ state.objects ++ Some object ∷ []
object_more state (ActorObject.Token key collection) = refl
object_more state (ActorObject.Collection key collection) = refl
object_more state (ActorObject.Handle buffer strength) = refl

-- more objects
pub objects_more : (state : Known) (objects : List ActorObject) → (with_objects state objects).objects ≡ state.objects ++ map Some objects
objects_more state [] = sym (append-nil state.objects)
objects_more state (object ∷ objects) =
    objects_more (with_object state object) objects
    ∙ (ap (λ l. l ++ map Some objects) (object_more state object)
    ∙ append_assoc state.objects (Some object ∷ []) (map Some objects))

-- the queues have no say in what lies where
pub handle_less : (state : Known) (name : Option (BufferName × Strength)) → (without_handle state name).objects ≡ state.objects
handle_less state None = refl
handle_less state (Some name) = refl

-- objects that are gone
pub objects_spent : (state : Known) (slot : Option ℕ) (name : Option (BufferName × Strength)) (gone : Bool) →
    (if gone then without_handle (without_object state slot) name else state).objects
    ≡ (if gone then emptied state.objects slot else state.objects)
objects_spent state slot name true = handle_less (without_object state slot) name
objects_spent state slot name false = refl

-- the objects after the reply
pub objects_noted : (state : Known) (step : Step) (asked : StepCall) (reply : Reply) →
    (state_after state step asked reply).objects ≡ objects_after state.objects asked reply
objects_noted state step asked reply =
    let named = with_tracker_label (with_node_label state step reply) step reply in
    let all = new_objects (on_of state.objects asked.slot) asked.call reply in
    objects_more (without_spent named asked reply) all
    ∙ ap (λ l. l ++ map Some all) (objects_spent named asked.slot (handle_of asked.call) (spends_object asked.call reply))
