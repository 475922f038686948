-- The node is stored under the key, and then knows it.
use Rattle.forest_store.proofs.Common.{option_map, refl, ap, Node, Row}
use Rattle.forest_store.proofs.newborns.Members.{bears_node}
use Rattle.forest_store.proofs.insertion.insert_node.Goals as goal

pub name_at-requires : goal.name_at-requires
name_at-requires c = rw c.in_ok-key.ensures.ok.born refl

pub returns-clause-ok : goal.returns-clause-ok
returns-clause-ok c =
    let births = c.in_ok-key.ensures.ok in
    let there = ap (option_map (λ (row : Row Node). row.node)) births.born in
    bears_node _ _ _ _ _ _ c.requires.first refl births
    (c.name_at.ensures.becomes c.args.draft.now there) (c.name_at.ensures.writes c.args.draft.now there)
