-- What a call that is taken came to, and where the walk over its event starts.
use Rattle.std.specs.Prelude.{◌≡◌, true, false, ⊤, List, Option, Some, None, Result}
use Rattle.std.specs.List.{list_any}
use Rattle.std.specs.Result.{result_map_both}
use Rattle.sm_names.specs.declared.keys.NodeKey.{NodeKey}
use Rattle.sm_names.specs.declared.messages.Reply.{Reply}
use Rattle.sm_names.specs.declared.outcomes.StepFault.{StepFault}
use Rattle.sm_names.specs.declared.tracking.Fired.{Fired}
use Rattle.sm_names.specs.Marks.{Entry}
use Rattle.forest_store.specs.Forest.{beside, given}
use Rattle.forest_store.specs.Nodes.{is_of}
use Rattle.forest_store.specs.Scenes.{IsSound}
use Rattle.forest_store.specs.Settling.{MayChange, collection_or_new}
use Rattle.forest_store.specs.Snapshots.{collection_of}
use Rattle.forced_marks.specs.Marks.{forces_nothing}
use Rattle.core_state.specs.Shown.{ShowsBut}
use Rattle.core_state.specs.State.{State}
use Rattle.core_state.specs.Steps.{Work, leaves_tracker_room}
use Rattle.event_facts.specs.declared.marked_steps.Start.{Start}
use Rattle.event_facts.specs.declared.marked_steps.Told.{Told}

-- the reply, or why the call was not taken
abbrev pub reply_of : Result Told StepFault → Result Reply StepFault
reply_of taken = result_map_both (λ (t : Told). t.reply) (λ fault. fault) taken

-- the collection that the work changes is copied, beside the pages of the others, and the work fits it
pub record IsCopied (s : State) (w : Work) (b : Start) : Type 0 where
  pub change : b.change ≡ w.change
  pub scene : collection_of b.scene ≡ collection_or_new s.forest w.collection
  pub others : b.others.items ≡ beside s.forest w.collection
  pub sound : IsSound (collection_of b.scene)
  pub may : MayChange s.forest w.collection w.change
  pub room : leaves_tracker_room b.change b.scene.nodes.items ≡ true
  pub fresh : (key : NodeKey) → given s.forest key ≡ false → list_any (is_of key) b.scene.nodes.items ≡ false

-- the work fits its collection, which rests as a history has it, and forces nothing
pub record IsUnforced (s : State) (w : Work) : Type 0 where
  pub gone : List Fired
  pub history : List Entry
  pub shows : ShowsBut gone s history
  pub may : MayChange s.forest w.collection w.change
  pub still : forces_nothing w.change ≡ true

-- the work, if there is some that may force something, has such a start
abbrev pub IsStart : State → Option Work → Option Start → Type 0
IsStart s None None = ⊤
IsStart s None (Some b) = ⊥
IsStart s (Some w) None = IsUnforced s w
IsStart s (Some w) (Some b) = IsCopied s w b
