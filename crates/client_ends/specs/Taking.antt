-- What a Take brings.
use Rattle.std.specs.Prelude.{◌≡◌, ℕ, List, [], map, Option, Some, None}
use Rattle.sm_names.specs.declared.keys.NodeKey.{NodeKey}
use Rattle.sm_names.specs.declared.messages.Call.{Call}
use Rattle.sm_names.specs.declared.messages.Reply.{Reply}
use Rattle.event_laws.specs.HandleSums.{indices_in}
use Rattle.service_lock.specs.declared.taken.TakenHandles.{TakenHandles}
use Rattle.client_ends.specs.Clients.{Grip, Made, Seen}

-- the client's handle on the buffer with this index
abbrev pub grip_at : ℕ → TakenHandles → ℕ → Grip
grip_at client taken index = record {
  client = client;
  buffer = record { collection = taken.collection; index = index };
  strength = taken.strength;
}

-- its handles on these buffers
abbrev pub grips_at : ℕ → TakenHandles → List ℕ → List Grip
grips_at client taken indices = map (grip_at client taken) indices

-- its handles on all that were taken, in the order of their indices
abbrev pub grips_by : ℕ → Option TakenHandles → List Grip
grips_by client None = []
grips_by client (Some taken) = grips_at client taken (indices_in taken.set)

-- one Take was made and answered so, and these are its handles: one on each buffer of its set
pub record Took (old new : Seen) (key : NodeKey) (handles : List Grip) : Type 0 where
  pub taken : TakenHandles
  pub made : Made old new (Call.Take key) (Reply.Taken taken.collection taken.strength taken.set)
  pub brought : handles ≡ grips_at old.id taken (indices_in taken.set)
