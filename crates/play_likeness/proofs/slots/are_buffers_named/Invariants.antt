use Rattle.play_likeness.proofs.Common.{BufferName, In, buffer_renamed, new_id, take, ◌≡◌}
use Rattle.play_likeness.proofs.slots.are_buffers_named.Given as goal

-- so far each is a new name
abbrev pub invariant-loop-other : goal.invariant-loop-other
invariant-loop-other l = (new : BufferName) → In new (take l.other-index l.others) →
    (buffer : BufferName) × In buffer l.buffers × (buffer_renamed (new_id l.names) buffer ≡ new)
