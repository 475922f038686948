use Rattle.play_likeness.proofs.Common.{BufferName, In, arith, buffer_renamed, length, new_id, refl, ◌<◌, ◌≡◌, ◌≤◌}
use Rattle.play_likeness.proofs.Listed.{each-all, each-more}
use Rattle.play_likeness.proofs.slots.are_buffers_named.Goals as goal

-- one more is a new name
pub loop-other-preserved : goal.loop-other-preserved
loop-other-preserved c =
    let within : c.loop-other.other-index < length c.args.others.now = omega arith in
    each-more (λ (new : BufferName). (buffer : BufferName) × In buffer c.args.buffers.now × (buffer_renamed
    (new_id c.args.names.now) buffer ≡ new))
    c.args.others.now c.loop-other.other-index (record { collection = 0; index = 0 }) within c.loop-other.invariant
    (c.if-not-has_buffer_name.ensures refl)

-- all are
pub returns : goal.returns
returns c = λ _.
    let all : length c.args.others.now ≤ c.loop-other.other-index = omega arith in
    each-all (λ (new : BufferName). (buffer : BufferName) × In buffer c.args.buffers.now × (buffer_renamed
    (new_id c.args.names.now) buffer ≡ new))
    c.args.others.now c.loop-other.other-index all c.loop-other.invariant
