-- What contracts see of a forest: the collections with their nodes and buffers.
use Rattle.std.specs.Prelude.{ℕ, Bool, ◌&&◌, ◌==◌, not, nat_lt, if◌then◌else◌, slice_index_or, List, [], ◌∷◌, map, length, Option, ◌≡◌}
use Rattle.std.specs.List.{find, filter, flat_map}
use Rattle.sm_names.specs.declared.keys.Interval.{Interval}
use Rattle.sm_names.specs.declared.keys.NodeKey.{NodeKey}
use Rattle.sm_names.specs.declared.outcomes.Buffers.{Buffers}
use Rattle.sm_names.specs.declared.keys.HeldBuffer.{HeldBuffer}
use Rattle.sm_names.specs.Words.{sorted_by}
use Rattle.buffer_pool.specs.Holdings.{Holdings}
use Rattle.forest_store.specs.declared.node.Node.{Node}
use Rattle.forest_store.specs.declared.summary.Summary.{Summary}
use Rattle.forest_store.specs.Nodes.{node_of, is_unkept}

-- a collection: its kept nodes by birth, what it was given, and those of its buffers, by index, whose pages were not
-- given back
pub record Collection : Type 0 where
  pub id : ℕ
  pub nodes : List Node
  pub buffers : Option Buffers
  pub held : List HeldBuffer

-- at most `limit` nodes; the collections by id; the generation that each slot gives next to a node
pub record Forest : Type 0 where
  pub limit : ℕ
  pub collections : List Collection
  pub nexts : List ℕ

-- the key was given to some node, kept or forgotten
abbrev pub given : Forest → NodeKey → Bool
given f key = nat_lt key.generation (slice_index_or f.nexts key.slot 0)

-- a forest that never had a node
abbrev pub empty_forest : ℕ → Forest
empty_forest limit = record { limit = limit; collections = []; nexts = [] }

-- the collection with this id
abbrev pub collection_at : Forest → ℕ → Option Collection
collection_at f id = find (λ (c : Collection). c.id == id) f.collections

-- all nodes, collection by collection
abbrev pub all_nodes : Forest → List Node
all_nodes f = flat_map (λ (c : Collection). c.nodes) f.collections

-- the node with this key
abbrev pub node_at : Forest → NodeKey → Option Node
node_at f key = node_of (all_nodes f) key

-- how many nodes are kept
abbrev pub node_count : Forest → ℕ
node_count f = length (all_nodes f)

-- the pages of a collection
abbrev pub pages_in : Collection → List Interval
pages_in c = map (λ (h : HeldBuffer). h.pages) c.held

-- the pages of the other collections
abbrev pub beside : Forest → ℕ → List Interval
beside f id = flat_map pages_in (filter (λ (c : Collection). not (c.id == id)) f.collections)

-- the buffers of all collections whose pages were not given back
abbrev pub all_held : Forest → List HeldBuffer
all_held f = flat_map (λ (c : Collection). c.held) f.collections

-- the pool holds the pages of the forest's buffers that were not given back, and no others
abbrev pub IsPoolOf : Holdings → Forest → Type 0
IsPoolOf pool f = pool.held ≡ sorted_by (λ i. i.start) (map (λ (h : HeldBuffer). h.pages) (all_held f))

-- the collection with other nodes
abbrev pub with_nodes : (List Node → List Node) → Collection → Collection
with_nodes f c = record c { nodes = f c.nodes }

-- the collection at a glance
abbrev pub summary_of : Collection → Summary
summary_of c = record { nodes = length c.nodes; buffers = c.buffers; held = length c.held }

-- the keys of the live nodes of all collections, by birth
abbrev pub live_keys : Forest → List NodeKey
live_keys f = map (λ (n : Node). n.key)
    (sorted_by (λ (n : Node). n.event) (filter (λ (n : Node). not n.gone && not n.released) (all_nodes f)))

-- the buffers of all collections whose pages were not given back, by page
abbrev pub held_by_page : Forest → List HeldBuffer
held_by_page f = sorted_by (λ (h : HeldBuffer). h.pages.start) (all_held f)

-- each collection as the function makes it
abbrev pub on_collections : (Collection → Collection) → Forest → Forest
on_collections g f = record f { collections = map g f.collections }

-- the two tell of the same limit and of the same keys
pub record SameKeys (old new : Forest) : Type 0 where
  pub limit : new.limit ≡ old.limit
  pub keys : (key : NodeKey) → given new key ≡ given old key

-- the collection has no node and no page
abbrev pub is_left : Collection → Bool
is_left c = length c.nodes == 0 && length c.held == 0

-- the collection without the nodes that are over
abbrev pub tidied : Collection → Collection
tidied c = with_nodes (filter (λ n. not (is_unkept n))) c

-- the collections, where the one with this id is without the nodes that are over, and is removed if it is empty then
abbrev pub without_unkept_in : ℕ → List Collection → List Collection
without_unkept_in id [] = []
without_unkept_in id (c ∷ cs) =
    let here : List Collection = if is_left (tidied c) then cs else tidied c ∷ cs in
    let on : List Collection = c ∷ without_unkept_in id cs in
    if c.id == id then here else on
