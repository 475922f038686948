-- The live nodes and the buffers of a forest, in order, told by its table and its entries.
use Rattle.alloc_event.proofs.Common.{CollectionRow, Entry, HeldBuffer, List, Node, Table, [], all_keys, ap, filter, forest_of, map}
use Rattle.alloc_event.proofs.Common.{nodes_of_all, nodes_with, refl, rows_of, sorted_by, ◌++◌, ◌∙◌, ◌∷◌, ◌≡◌}
use Rattle.forest_store.specs.Questions.{is_live_node}
use Rattle.std.specs.List.{flat_map}
use Rattle.forest_store.specs.Forest.{held_by_page, live_keys}
use Rattle.forest_store.proofs.newborns.Forest.{helds_in}

-- the live nodes by birth are those of all keys
pub live_in_order : (t : Table Node) (ss : List CollectionRow) →
    live_keys (forest_of t ss) ≡ map (λ (n : Node). n.key)
    (sorted_by (λ (n : Node). n.event) (filter is_live_node (nodes_with t (all_keys ss))))
live_in_order t ss =
    ap (λ ns. map (λ (n : Node). n.key) (sorted_by (λ (n : Node). n.event) (filter is_live_node ns))) (nodes_of_all t ss)

-- all buffers are those of the entries
held_of_all : (es : List Entry) → flat_map (λ (s : CollectionRow). s.held) (rows_of es) ≡ flat_map (λ (e : Entry). e.held.items) es
held_of_all [] = refl
held_of_all (e ∷ es) = ap (λ hs. e.held.items ++ hs) (held_of_all es)

-- the buffers by page are those of the entries
pub held_in_order : (t : Table Node) (es : List Entry) →
    held_by_page (forest_of t (rows_of es))
    ≡ sorted_by (λ (h : HeldBuffer). h.pages.start) (flat_map (λ (e : Entry). e.held.items) es)
held_in_order t es = ap (sorted_by (λ (h : HeldBuffer). h.pages.start)) (helds_in t (rows_of es) ∙ held_of_all es)
