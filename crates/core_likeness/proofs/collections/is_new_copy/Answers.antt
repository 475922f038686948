use Rattle.core_likeness.proofs.Common.{ap, held_renamed, map, new_id, new_key, node_renamed, node_undated, refl, sym, ◌∙◌, ◌≡◌}
use Rattle.forest_store.specs.Snapshots.{collection_of}
use Rattle.core_likeness.proofs.CollectionLaws.{copy-alike}
use Rattle.core_likeness.proofs.collections.is_new_copy.Goals as goal

-- field by field
pub returns : goal.returns
returns c = λ h.
    let same : c.args.other.now.id ≡ new_id c.args.names.now c.args.one.now.id = cc in
    copy-alike (new_key c.args.names.now) (new_id c.args.names.now) (collection_of c.args.one.now) (collection_of c.args.other.now) same
    (c.if-not-is_given.ensures refl)
    (ap (map node_undated) (sym c.deref-2.ensures.value) ∙ (c.if-not-are_new_nodes.ensures refl
    ∙ ap (map (node_renamed (new_key c.args.names.now) (new_id c.args.names.now))) c.deref.ensures.value))
    (sym c.deref-4.ensures.value ∙ (c.are_new_held.ensures h ∙ ap (map (held_renamed (new_id c.args.names.now))) c.deref-3.ensures.value))
