-- Handles on buffers, and the buffers that handles and nodes keep.
-- `opens` restates `fuchsia.sysmem2.BufferCollection.WaitForAllBuffersAllocated`, `doomed` and
-- `home` restate `fuchsia.sysmem2.Node.SetWeak`. Handles in parcels are this profile's own.
use Rattle.std.specs.Prelude.{ℕ, ◌+◌, ◌-◌, Bool, true, false, ◌&&◌, ◌==◌, not, if◌then◌else◌, map, List, [], ◌∷◌, Option, Some, None, is_some, is_none}
use Rattle.std.specs.Int.{bit_at}
use Rattle.std.specs.List.{count_by, range_with_len}
use Rattle.std.specs.Option.{option_map_or}
use Rattle.sm_names.specs.declared.keys.BufferName.{BufferName}
use Rattle.sm_names.specs.declared.keys.Strength.{Strength}
use Rattle.sm_names.specs.declared.messages.Call.{Call}
use Rattle.sm_names.specs.declared.messages.Reply.{Reply}
use Rattle.sm_names.specs.declared.outcomes.Buffers.{Buffers}
use Rattle.sm_names.specs.Births.{Birth, birth_of}
use Rattle.sm_names.specs.Marks.{Mark, Timeline, Called, Allocated}
use Rattle.sm_names.specs.Members.{members, asked, some_strong_live}
use Rattle.sm_names.specs.Sameness.{same_buffer, same_strength}
use Rattle.sm_names.specs.Words.{times}

-- the mark opens a handle of this buffer and strength for such a client: only a Take that was
-- answered Taken and a DupHandle that took effect do
abbrev pub opens : (ℕ → Bool) → BufferName → Strength → Mark → Bool
opens who buffer strength (Called client (Reply.Taken collection taken set) (Call.Take key)) =
    who client
    && (collection == buffer.collection
    && (same_strength taken strength && bit_at set buffer.index == 1))
opens who buffer strength (Called client Reply.Done (Call.DupHandle name dup)) =
    who client && (same_buffer name buffer && same_strength dup strength)
opens who buffer strength _ = false

-- the mark drops such a handle: only a DropHandle that took effect does
abbrev pub drops : (ℕ → Bool) → BufferName → Strength → Mark → Bool
drops who buffer strength (Called client Reply.Done (Call.DropHandle name dropped)) =
    who client && (same_buffer name buffer && same_strength dropped strength)
drops who buffer strength _ = false

-- the mark puts such a handle of such a client into a parcel: only a GiveHandle that took effect
-- does
abbrev pub lifts : (ℕ → Bool) → BufferName → Strength → Mark → Bool
lifts who buffer strength (Called client Reply.Done (Call.GiveHandle name given to)) =
    who client && (same_buffer name buffer && same_strength given strength)
lifts who buffer strength _ = false

-- the mark takes such a handle out of a parcel for such a client: only a Collect that was answered
-- CollectedHandle does
abbrev pub lands : (ℕ → Bool) → BufferName → Strength → Mark → Bool
lands who buffer strength (Called client (Reply.CollectedHandle name given) Call.Collect) =
    who client && (same_buffer name buffer && same_strength given strength)
lands who buffer strength _ = false

-- how many handles the client has open: those in parcels are nobody's
abbrev pub open_of : Timeline → ℕ → BufferName → Strength → ℕ
open_of marks client buffer strength =
    let it : ℕ → Bool = λ c. c == client in
    (times (opens it buffer strength) marks + times (lands it buffer strength) marks)
    - (times (drops it buffer strength) marks + times (lifts it buffer strength) marks)

-- how many handles are in parcels
abbrev pub moving : Timeline → BufferName → Strength → ℕ
moving marks buffer strength =
    times (lifts (λ c. true) buffer strength) marks
    - times (lands (λ c. true) buffer strength) marks

-- how many handles are open, those in parcels among them
abbrev pub open_total : Timeline → BufferName → Strength → ℕ
open_total marks buffer strength =
    times (opens (λ c. true) buffer strength) marks
    - times (drops (λ c. true) buffer strength) marks

-- the mark, coming after these, gives the root unit of the collection its buffers: only the
-- allocation of a root does
abbrev pub is_initial : Timeline → ℕ → Mark → Bool
is_initial before collection (Allocated head) =
    option_map_or (λ (b : Birth). is_none b.parent && b.collection == collection)
    (birth_of before head) false
is_initial before collection _ = false

-- the buffers that the collection was given, as its root unit asked for them then
abbrev pub buffers_of : Timeline → ℕ → Option Buffers
buffers_of [] collection = None
buffers_of (mark ∷ before) collection =
    let given : Option Buffers = Some (asked (members before collection)) in
    let on : Option Buffers = buffers_of before collection in
    if is_initial before collection mark then given else on

-- a buffer with this many open strong handles is doomed: there is none, and no strong node is live
abbrev pub is_doomed : ℕ → Bool → Bool
is_doomed strong strong_live = strong == 0 && not strong_live

-- a buffer with this many open handles is home: it is doomed, and no weak handle is open either
abbrev pub is_home : ℕ → ℕ → Bool → Bool
is_home strong weak strong_live = is_doomed strong strong_live && weak == 0

-- a buffer of an allocated collection that neither a strong handle nor a strong node keeps
abbrev pub doomed : Timeline → BufferName → Bool
doomed marks buffer =
    is_some (buffers_of marks buffer.collection)
    && is_doomed (open_total marks buffer Strength.Strong)
    (some_strong_live (members marks buffer.collection))

-- a doomed buffer on which no handle is open, in a parcel or out of it
abbrev pub home : Timeline → BufferName → Bool
home marks buffer = doomed marks buffer && open_total marks buffer Strength.Weak == 0

-- the names of this many buffers
abbrev pub names : ℕ → ℕ → List BufferName
names collection count =
    map (λ i. record { collection = collection; index = i }) (range_with_len 0 count)

-- the buffers of the collection
abbrev pub buffer_names : Timeline → ℕ → List BufferName
buffer_names marks collection =
    option_map_or (λ (b : Buffers). names collection b.count) (buffers_of marks collection) []

-- how many of the collection's buffers are not home
abbrev pub left : Timeline → ℕ → ℕ
left marks collection = count_by (λ b. not (home marks b)) (buffer_names marks collection)
