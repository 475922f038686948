use Rattle.play_likeness.proofs.Common.{In, List, known, new_number, option_map, refl, subst, ℕ, ◌≡◌}
use Rattle.play_likeness.proofs.KnownLaws.{labels-alike}
use Rattle.play_likeness.proofs.labels.trackers_alike.Goals as goal

-- each label that either actor has stands for the same
pub returns : goal.returns
returns c = λ h.
    labels-alike (new_number c.args.names.now) (known c.args.one.now).trackers
    (known c.args.other.now).trackers c.in_ok-labels.labels.items c.in_ok-others.others.items
    c.in_ok-labels.ensures c.in_ok-others.ensures
    (subst (λ (ls : List ℕ). (l : ℕ) → In l ls → (known c.args.other.now).trackers l
    ≡ option_map (new_number c.args.names.now) ((known c.args.one.now).trackers l))
    c.deref.ensures.value (c.if-not-are_new_trackers.ensures refl))
    (subst (λ (ls : List ℕ). (l : ℕ) → In l ls → (known c.args.other.now).trackers l
    ≡ option_map (new_number c.args.names.now) ((known c.args.one.now).trackers l))
    c.deref-2.ensures.value (c.are_new_trackers-are_new.ensures (cc)))
