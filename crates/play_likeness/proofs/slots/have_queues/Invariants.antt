use Rattle.play_likeness.proofs.Common.{BufferName, In, buffer_renamed, known, new_id, take, ◌≡◌}
use Rattle.play_likeness.proofs.slots.have_queues.Given as goal

-- so far each has the same
abbrev pub invariant-loop-buffer : goal.invariant-loop-buffer
invariant-loop-buffer l = (x : BufferName) → In x (take l.buffer-index l.buffers) →
    (known l.other).handles l.strength (buffer_renamed (new_id l.names) x) ≡ (known l.one).handles l.strength x
