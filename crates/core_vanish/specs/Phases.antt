-- The phases of a vanishing of a core. No public clause cites this module.
use Rattle.std.specs.Prelude.{ℕ, ◌≡◌, ◌<◌, true, List, [], ◌∷◌, ◌++◌, Result, Ok, Err}
use Rattle.std.specs.List.{list_any}
use Rattle.sm_names.specs.declared.keys.BufferName.{BufferName}
use Rattle.sm_names.specs.declared.keys.HeldBuffer.{HeldBuffer}
use Rattle.sm_names.specs.declared.keys.NodeKey.{NodeKey}
use Rattle.sm_names.specs.declared.keys.Strength.{Strength}
use Rattle.sm_names.specs.declared.messages.Call.{Call}
use Rattle.sm_names.specs.declared.messages.Reply.{Reply}
use Rattle.sm_names.specs.declared.outcomes.Refusal.{Refusal}
use Rattle.sm_names.specs.declared.outcomes.StepFault.{StepFault}
use Rattle.sm_names.specs.Handles.{open_of}
use Rattle.sm_names.specs.Marks.{Entry, Timeline}
use Rattle.sm_names.specs.declared.tracking.Fired.{Fired}
use Rattle.sm_names.specs.Reading.{readings}
use Rattle.sm_names.specs.Sameness.{same_buffer, same_key}
use Rattle.sm_names.specs.Timelines.{timeline}
use Rattle.forest_store.specs.declared.node.Node.{Node}
use Rattle.core_state.specs.Shown.{ShowsBut}
use Rattle.core_state.specs.State.{State}
use Rattle.core_vanish.specs.declared.vanishing.VanishFault.{VanishFault}
use Rattle.core_vanish.specs.Vanishes.{HasVanished, IsVanish, holds_end}
use Rattle.core_vanish.specs.Vanishing.{AdvancesBy}

-- the core went on by some events, of which this holds for each history that it showed, but for the firings that it forgot: of its
-- marks, the events, and the marks after them
pub record Phase (old new : State) (P : Timeline → List Entry → Timeline → Type 0) : Type 0 where
  pub events : List Entry
  pub advances : AdvancesBy old new events
  pub so : (gone : List Fired) (history : List Entry) → ShowsBut gone old history →
      P (timeline old.pool history) events (timeline old.pool (history ++ events))

-- the same fault of the whole
abbrev pub part_fault : StepFault → VanishFault
part_fault StepFault.HistoryFull = VanishFault.HistoryFull
part_fault StepFault.NoMemory = VanishFault.NoMemory

-- how many parcels wait, as a Shut is answered
abbrev pub waiting_told : Reply → Result ℕ VanishFault
waiting_told (Reply.Shut waiting) = Ok waiting
waiting_told _ = Err VanishFault.NoSuchClient

-- the Shut was refused, or not made: it takes no memory
abbrev pub IsUnshut : ℕ → VanishFault → Timeline → List Entry → Timeline → Type 0
IsUnshut client VanishFault.NoSuchClient marks events later =
    events ≡ (client, Call.Shut, Reply.Refused Refusal.NoSuchClient) ∷ []
IsUnshut client VanishFault.HistoryFull marks events later = events ≡ []
IsUnshut client VanishFault.NoMemory marks events later = ⊥

-- each end that the client holds is that of one of these nodes
abbrev pub HoldsAmong : ℕ → List Node → Timeline → Type 0
HoldsAmong client nodes marks =
    (key : NodeKey) → holds_end (readings marks) client key ≡ true → list_any (λ (n : Node). same_key n.key key) nodes ≡ true

-- each buffer of which the client has a handle open is one of these
abbrev pub HasAmong : ℕ → List HeldBuffer → Timeline → Type 0
HasAmong client buffers marks = (buffer : BufferName) (strength : Strength) → 0 < open_of marks client buffer strength →
    list_any (λ (h : HeldBuffer). same_buffer h.buffer buffer) buffers ≡ true

-- the client vanished
pub record HasLeft (client : ℕ) (events : List Entry) (later : Timeline) : Type 0 where
  pub is_vanish : IsVanish client events
  pub has_vanished : HasVanished (readings later) client
