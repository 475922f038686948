use Rattle.play_likeness.proofs.Common.{BufferName, ap, arith, buffer_renamed, known, length, new_id, refl, sym, ◌<◌, ◌∙◌, ◌≡◌, ◌≤◌}
use Rattle.play_likeness.proofs.Listed.{each-all, each-more}
use Rattle.play_likeness.proofs.slots.have_queues.Goals as goal

-- one more has the same
pub loop-buffer-preserved : goal.loop-buffer-preserved
loop-buffer-preserved c =
    let within : c.loop-buffer.buffer-index < length c.args.buffers.now = omega arith in
    each-more (λ (x : BufferName). (known c.args.other.now).handles c.args.strength (buffer_renamed (new_id c.args.names.now) x)
    ≡ (known c.args.one.now).handles c.args.strength x)
    c.args.buffers.now c.loop-buffer.buffer-index (record { collection = 0; index = 0 }) within c.loop-buffer.invariant
    (ap ((known c.args.other.now).handles c.args.strength) (sym c.buffer.ensures)
    ∙ (sym c.in_ok-others.ensures ∙ (sym c.deref-in-loop-buffer.ensures.value ∙ (c.if-not-are_same.ensures refl
    ∙ (c.deref.ensures.value ∙ c.in_ok-slots.ensures)))))

-- all have
pub returns : goal.returns
returns c = λ _.
    let all : length c.args.buffers.now ≤ c.loop-buffer.buffer-index = omega arith in
    each-all (λ (x : BufferName). (known c.args.other.now).handles c.args.strength (buffer_renamed (new_id c.args.names.now) x)
    ≡ (known c.args.one.now).handles c.args.strength x)
    c.args.buffers.now c.loop-buffer.buffer-index all c.loop-buffer.invariant
