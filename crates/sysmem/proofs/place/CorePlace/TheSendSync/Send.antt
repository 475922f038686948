-- A place may go to another thread, since the core that it keeps may, and any thread may free its block.
use Rattle.sysmem.proofs.Common.{None, Option, Ptr, Some, State, shape}
use mir.Raw.{raw}
use base.Shift.{Keyless}
use denote.Memory.{lone}
use denote.Struct.Struct.{exits_of}
use denote.Struct.Owning.{fields, to}
use denote.Param.Send.{IsSend, AllSend, owning_send, struct_send, sendable}
use Rattle.std.specs.Global.{Global}
use Rattle.std_alloc.proofs.SendSync.{quiet, lies}
use Rattle.lifetime_core.proofs.machine.Core.TheSendSync.{the_send as core_send}
use Rattle.sysmem.specs.Ownership.{owns_core}
use Rattle.sysmem.specs.contracts.place.CorePlace.{the_row, the_type}
use Rattle.std.proofs.Crossing as heap
use Rattle.std_heap.proofs.Global.TheSendSync as handle
use Rattle.lifetime_core.specs.contracts.machine.Core as core

-- what a place owns names no key of one thread: it is empty, or a core that can be sent
keeps_keyless : (alloc : Global) (at : Ptr) (kept : Option State) → Keyless (owns_core alloc at kept)
keeps_keyless alloc at None = tt
keeps_keyless alloc at (Some state) = (lies core.the_row core_send at state, heap.frees.frees alloc (raw (lone core.the_row.mir)) at)

-- the fields of a place can be sent, and what it owns names no key of one thread
pub send : IsSend the_row
send =
    let all : AllSend (fields the_type) = (search sendable, (handle.the_field_send, tt)) in
    owning_send the_type all (λ d. keeps_keyless d.alloc d.at d.core)
    (λ k. quiet (to the_type) (exits_of k (fields the_type)) ((struct_send (shape the_type) all).leaving k))
