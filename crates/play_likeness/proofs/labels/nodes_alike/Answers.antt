use Rattle.play_likeness.proofs.Common.{In, List, known, new_id, new_key, option_map, place_renamed, refl, subst, ℕ, ◌≡◌}
use Rattle.play_likeness.proofs.KnownLaws.{labels-alike}
use Rattle.play_likeness.proofs.labels.nodes_alike.Goals as goal

-- each label that either actor has stands for the same
pub returns : goal.returns
returns c = λ h.
    labels-alike (place_renamed (new_key c.args.names.now) (new_id c.args.names.now)) (known c.args.one.now).nodes
    (known c.args.other.now).nodes c.in_ok-labels.labels.items c.in_ok-others.others.items
    c.in_ok-labels.ensures c.in_ok-others.ensures
    (subst (λ (ls : List ℕ). (l : ℕ) → In l ls → (known c.args.other.now).nodes l
    ≡ option_map (place_renamed (new_key c.args.names.now) (new_id c.args.names.now)) ((known c.args.one.now).nodes l))
    c.deref.ensures.value (c.if-not-are_new_places.ensures refl))
    (subst (λ (ls : List ℕ). (l : ℕ) → In l ls → (known c.args.other.now).nodes l
    ≡ option_map (place_renamed (new_key c.args.names.now) (new_id c.args.names.now)) ((known c.args.one.now).nodes l))
    c.deref-2.ensures.value (c.are_new_places-are_new.ensures (cc)))
