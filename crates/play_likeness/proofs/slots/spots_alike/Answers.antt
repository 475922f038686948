use Rattle.play_likeness.proofs.Common.{In, List, NodeKey, None, keys-apart, known, new_key, refl, subst, ◌≡◌}
use Rattle.play_likeness.proofs.KnownLaws.{keys-alike}
use Rattle.play_likeness.proofs.slots.spots_alike.Goals as goal

-- all that either actor has is listed
pub returns : goal.returns
returns c = λ h.
    keys-alike (new_key c.args.names.now) (keys-apart c.args.names.now) None (known c.args.one.now).spots (known c.args.other.now).spots
    c.in_ok-keys.keys.items c.in_ok-others.others.items c.in_ok-keys.ensures c.in_ok-others.ensures
    (subst (λ (ls : List NodeKey). (x : NodeKey) → In x ls → (known c.args.other.now).spots (new_key c.args.names.now x)
    ≡ (known c.args.one.now).spots x) c.deref-3.ensures.value (c.have_spots-are_same.ensures (cc)))
    (subst (λ (ls : List NodeKey). (new : NodeKey) → In new c.in_ok-others.others.items →
    (x : NodeKey) × In x ls × (new_key c.args.names.now x ≡ new)) c.deref.ensures.value
    (subst (λ (ls : List NodeKey). (new : NodeKey) → In new ls →
    (x : NodeKey) × In x c.deref.result.now × (new_key c.args.names.now x ≡ new)) c.deref-2.ensures.value
    (c.if-not-are_named.ensures refl)))
