-- What the entries of a history tell.
use Rattle.std.specs.Prelude.{ℕ, Bool, false, ◌&&◌, ◌==◌, if◌then◌else◌, List, map, reverse, Option, Some, None, is_none}
use Rattle.std.specs.Int.{bit_at}
use Rattle.std.specs.List.{filter}
use Rattle.sm_names.specs.declared.keys.BufferName.{BufferName}
use Rattle.sm_names.specs.declared.keys.NodeKey.{NodeKey}
use Rattle.sm_names.specs.declared.messages.Call.{Call}
use Rattle.sm_names.specs.declared.messages.Reply.{Reply}
use Rattle.sm_names.specs.Births.{Birth, births}
use Rattle.sm_names.specs.Marks.{Timeline}
use Rattle.sm_names.specs.Sameness.{same_buffer, same_key}
use Rattle.sm_names.specs.Trackers.{Tracked}
use Rattle.core_likeness.specs.declared.readings.openings.Opening.{Opening}
use Rattle.core_likeness.specs.declared.readings.tracking.Attached.{Attached}

-- the collections that were opened, the earliest first
abbrev pub roots : Timeline → List ℕ
roots marks = map (λ (b : Birth). b.collection) (filter (λ (b : Birth). is_none b.parent) (reverse (births marks)))

-- the collection of the node, if the call, answered so, made that
abbrev pub born_by : NodeKey → Call → Reply → Option ℕ
born_by key Call.OpenRoot (Reply.Token made collection) = if same_key made key then Some collection else None
born_by key (Call.Duplicate parent) (Reply.Token made collection) = if same_key made key then Some collection else None
born_by key (Call.AttachToken parent) (Reply.Token made collection) = if same_key made key then Some collection else None
born_by key _ _ = None

-- the tracker with its condition
abbrev pub tracked_of : Attached → Tracked
tracked_of a = record { id = a.id; condition = a.condition }

-- on which buffers the call, answered so, brings the caller handles
abbrev pub opening_by : Call → Reply → Opening
opening_by (Call.Take key) (Reply.Taken collection strength set) = Opening.Set collection set
opening_by (Call.DupHandle buffer strength) Reply.Done = Opening.Buffer buffer
opening_by Call.Collect (Reply.CollectedHandle buffer strength) = Opening.Buffer buffer
opening_by _ _ = Opening.Nothing

-- the buffer is one of these
abbrev pub is_opened : Opening → BufferName → Bool
is_opened Opening.Nothing buffer = false
is_opened (Opening.Set collection set) buffer = collection == buffer.collection && bit_at set buffer.index == 1
is_opened (Opening.Buffer name) buffer = same_buffer name buffer
