use Rattle.core_likeness.proofs.Common.{List, Mixed, ap, collection_at, collection_renamed, map, new_id, new_key, refl, subst, undated, ℕ}
use Rattle.core_likeness.proofs.Common.{◌∙◌, ◌≡◌}
use Rattle.std.proofs.Common.{option_map}
use Rattle.core_likeness.proofs.CollectionLaws.{collections-alike}
use Rattle.core_likeness.proofs.collections.collections_are_alike.Goals as goal

-- the same collections were opened, and each is the same
pub returns : goal.returns
returns c = λ h.
    collections-alike (new_key c.args.names.now) (new_id c.args.names.now) c.args.one.now c.args.other.now c.args.first.now
    c.args.second.now
    c.requires.one c.requires.other c.in_ok-ids.ids.items c.in_ok-others.others.items (c.in_ok-ids.ensures c.args.one.now.pool)
    (c.in_ok-others.ensures c.args.other.now.pool)
    (subst (λ (l : List ℕ). Mixed l c.in_ok-others.others.items)
    (c.deref-2.ensures.value ∙ (c.in_ok-new.ensures ∙ ap (map (new_id c.args.names.now)) c.deref.ensures.value))
    (c.if-not-are_mixed.ensures refl))
    (subst (λ (l : List ℕ). map (λ i. option_map undated (collection_at c.args.other.now.forest (new_id c.args.names.now i))) l
    ≡ map (λ i. option_map (collection_renamed (new_key c.args.names.now) (new_id c.args.names.now)) (collection_at
    c.args.one.now.forest i)) l)
    c.deref-3.ensures.value (c.in_ok-are_new.ensures h))
