use Rattle.play_likeness.proofs.Common.{BufferName, In-get_or, arith, get_or, length, refl, sym, ◌<◌}
use Rattle.play_likeness.proofs.slots.has_buffer_name.Goals as goal

-- this one has the name
pub returns-then-is_new_buffer : goal.returns-then-is_new_buffer
returns-then-is_new_buffer c = λ _.
    let nothing : BufferName = record { collection = 0; index = 0 } in
    let within : c.loop-buffer.buffer-index < length c.args.buffers.now = omega arith in (
      get_or c.args.buffers.now c.loop-buffer.buffer-index nothing,
      In-get_or c.args.buffers.now c.loop-buffer.buffer-index nothing within,
      sym (c.if-is_new_buffer.ensures refl),
    )
