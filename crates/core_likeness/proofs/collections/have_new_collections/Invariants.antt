use Rattle.core_likeness.proofs.Common.{collection_at, collection_renamed, map, new_id, new_key, take, undated, ◌≡◌}
use Rattle.std.proofs.Common.{option_map}
use Rattle.core_likeness.proofs.collections.have_new_collections.Given as goal

-- so far the collections are the ones
abbrev pub invariant-loop-id : goal.invariant-loop-id
invariant-loop-id l = map (λ id. option_map undated (collection_at l.other.forest (new_id l.names id))) (take l.id-index l.ids)
    ≡ map (λ id. option_map (collection_renamed (new_key l.names) (new_id l.names)) (collection_at l.one.forest id)) (take
    l.id-index l.ids)
