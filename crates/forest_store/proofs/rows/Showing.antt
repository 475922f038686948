-- What the forest that a table and entries make is read as.
use Rattle.forest_store.proofs.Common.{◌≡◌, ◌≤◌, ℕ, ◌==◌, ◌+◌, true, false, not, List, [], ◌∷◌, length, Option, Some, if◌then◌else◌}
use Rattle.forest_store.proofs.Common.{None, option_map, refl, ap, ◌∙◌, arith, filter, find, list_any}
use Rattle.forest_store.proofs.Common.{list_all, cons_option, option_map_or, NodeKey, Buffers, same_key, and_left, and_right}
use Rattle.forest_store.proofs.Common.{Table, node_at, Entry, Node, Collection, node_of, CollectionRow, row_of, rows_of}
use Rattle.forest_store.proofs.Common.{nodes_with, collection_in, forest_of, all_keys, is_filed, are_filed, IsStored, IfSome}
use Rattle.forest_store.proofs.Common.{flat_map, leb-true, filter_map-append, MAX_BUFFERS, collection_at, pages_held}
use Rattle.forest_store.proofs.Common.{length-append, In-find, all_nodes, beside, forest_node, summary_of, given_few}
use Rattle.forest_store.proofs.quiescence.Steps.{all-In}
use Rattle.forest_store.proofs.lists.Elements.{find_made}
use Rattle.forest_store.proofs.lists.Lookups.{nothing, node_of-looked}

-- the nodes of all collections are those of all keys
pub nodes_of_all : (t : Table Node) (es : List CollectionRow) → all_nodes (forest_of t es) ≡ nodes_with t (all_keys es)
nodes_of_all t [] = refl
nodes_of_all t (e ∷ es) = grind (arith, nodes_of_all t es, filter_map-append)

-- the pages beside a collection are those of the other entries
pub pages_of_others : (t : Table Node) (id : ℕ) (es : List Entry) → beside (forest_of t (rows_of es)) id
    ≡ flat_map (λ (e : Entry). pages_held e.held.items) (filter (λ (e : Entry). not (e.id == id)) es)
pages_of_others t id [] = refl
pages_of_others t id (e ∷ es) = grind (arith, pages_of_others t id es)

-- by what the table has there
node_is-by : (t : Table Node) (es : List CollectionRow) → IsStored t es → (key : NodeKey) (o : Option Node) → node_at t key ≡ o →
    (if list_any (same_key key) (all_keys es) then o else None) ≡ o
node_is-by t es ok key None is = nothing _
node_is-by t es ok key (Some n) is = rw (ok.there key n is) refl

-- a node of the forest is the table's
pub node_is : (t : Table Node) (es : List CollectionRow) → IsStored t es → (key : NodeKey) →
    forest_node (forest_of t es) key ≡ node_at t key
node_is t es ok key = ap (λ ns. node_of ns key) (nodes_of_all t es)
    ∙ node_of-looked _ ok.named _ key
    ∙ node_is-by t _ ok _ _ refl

-- a key that is filed has a node
filed-first : (id : ℕ) (o : Option Node) (ns : List Node) → option_map_or (λ (n : Node). n.collection == id) o false ≡ true →
    length (cons_option o ns) ≡ length ns + 1
filed-first id None ns h = absurd (cc)
filed-first id (Some n) ns h = omega arith

-- there are as many nodes as keys
pub filed-length : (t : Table Node) (id : ℕ) (keys : List NodeKey) → list_all (is_filed t id) keys ≡ true →
    length (nodes_with t keys) ≡ length keys
filed-length t id [] h = refl
filed-length t id (k ∷ ks) h =
    let on : length (nodes_with t ks) ≡ length ks = filed-length t id ks (and_right _ _ h) in
    filed-first id (node_at t k) (nodes_with t ks) (and_left _ _ h) ∙ omega arith

-- there are as many nodes as keys in all collections
pub all_filed-length : (t : Table Node) (es : List CollectionRow) → are_filed t es ≡ true →
    length (all_nodes (forest_of t es)) ≡ length (all_keys es)
all_filed-length t [] h = refl
all_filed-length t (e ∷ es) h =
    let here : length (nodes_with t e.keys) ≡ length e.keys = filed-length t _ _ (and_left _ _ h) in
    let on : length (all_nodes (forest_of t es)) ≡ length (all_keys es) = all_filed-length t es (and_right _ _ h) in
    length-append (nodes_with t e.keys) (all_nodes (forest_of t es))
    ∙ (omega (arith, length-append e.keys (all_keys es)))

-- the collection with an id is that of the entry with it
pub collection_is : (t : Table Node) (id : ℕ) (es : List CollectionRow) →
    collection_at (forest_of t es) id ≡ option_map (collection_in t) (find (λ (e : CollectionRow). e.id == id) es)
collection_is t id es = find_made (λ (c : Collection). c.id == id) (λ (e : CollectionRow). e.id == id) (collection_in t) es (λ e. refl)

-- the keys of an entry that is found are filed
pub filed_found : (t : Table Node) (id : ℕ) (es : List CollectionRow) → are_filed t es ≡ true → (e : CollectionRow) →
    find (λ (x : CollectionRow). x.id == id) es ≡ Some e → list_all (is_filed t e.id) e.keys ≡ true
filed_found t id es h e found =
    all-In (λ (x : CollectionRow). list_all (is_filed t x.id) x.keys) es e (In-find (λ (x : CollectionRow). x.id == id) es e found).0 h

-- the row of an entry is found as it is
pub row_found : (id : ℕ) (es : List Entry) → find (λ (s : CollectionRow). s.id == id) (rows_of es) ≡ option_map row_of (find (λ (e : Entry).
    e.id == id) es)
row_found id es = find_made (λ (s : CollectionRow). s.id == id) (λ (e : Entry). e.id == id) row_of es (λ e. refl)

-- the summary of a collection whose entry is found
pub collection_some : (t : Table Node) (es : List Entry) → IsStored t (rows_of es) → (id : ℕ) (e : Entry) →
    find (λ (x : Entry). x.id == id) es ≡ Some e →
    option_map summary_of (collection_at (forest_of t (rows_of es)) id) ≡ Some
    (record { nodes = length e.keys.items; buffers = e.buffers; held = length e.held.items })
collection_some t es ok id e found =
    let row = row_found id es ∙ ap (option_map row_of) found in
    ap (option_map summary_of) (collection_is t id _ ∙ ap (option_map (collection_in t)) row)
    ∙ (λ i. Some (record {
      nodes = filed-length t _ _ (filed_found t id (rows_of es) ok.filed _ row) i;
      buffers = e.buffers;
      held = length e.held.items;
    }))

-- and where none is found
pub collection_none : (t : Table Node) (es : List Entry) (id : ℕ) → find (λ (x : Entry). x.id == id) es ≡ None →
    collection_at (forest_of t (rows_of es)) id ≡ None
collection_none t es id none =
    collection_is t id _ ∙ ap (option_map (collection_in t)) (row_found id es ∙ ap (option_map row_of) none)

-- so few buffers were given
pub few_given : (o : Option Buffers) → given_few o ≡ true → IfSome o (λ b. b.count ≤ MAX_BUFFERS)
few_given None few = tt
few_given (Some b) few = leb-true b.count MAX_BUFFERS few
