use Rattle.play_likeness.proofs.Common.{BufferName, In, List, [], buffer_renamed, ids-apart, known, new_id, refl, subst, ◌≡◌}
use Rattle.play_likeness.proofs.KnownLaws.{buffers-alike}
use Rattle.play_likeness.proofs.slots.handles_alike.Goals as goal

-- all that either actor has is listed
pub returns : goal.returns
returns c = λ h.
    buffers-alike (new_id c.args.names.now) (ids-apart c.args.names.now) [] ((known c.args.one.now).handles c.args.strength)
    ((known c.args.other.now).handles c.args.strength)
    c.in_ok-buffers.buffers.items c.in_ok-others.others.items c.in_ok-buffers.ensures c.in_ok-others.ensures
    (subst (λ (ls : List BufferName). (x : BufferName) → In x ls →
    (known c.args.other.now).handles c.args.strength (buffer_renamed (new_id c.args.names.now) x)
    ≡ (known c.args.one.now).handles c.args.strength x) c.deref-3.ensures.value (c.in_ok-are_same.ensures h))
    (subst (λ (ls : List BufferName). (new : BufferName) → In new c.in_ok-others.others.items →
    (x : BufferName) × In x ls × (buffer_renamed (new_id c.args.names.now) x ≡ new)) c.deref.ensures.value
    (subst (λ (ls : List BufferName). (new : BufferName) → In new ls →
    (x : BufferName) × In x c.deref.result.now × (buffer_renamed (new_id c.args.names.now) x ≡ new)) c.deref-2.ensures.value
    (c.if-not-are_buffers_named.ensures refl)))
