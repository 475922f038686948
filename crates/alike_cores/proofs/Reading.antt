-- What answers read of a renamed state.
use Rattle.alike_cores.proofs.Common.{AreAlike, Bool, BufferName, Buffers, Client, Collection, CountsAlike, KeepsIds, KeepsKeys, List}
use Rattle.alike_cores.proofs.Common.{Node, NodeKey, None, OpenEnd, Option, Parcel, Some, State, Strength, [], ap, buffer_renamed}
use Rattle.alike_cores.proofs.Common.{client_renamed, collection_at, collection_renamed, cond, end_in, end_renamed, false, filter, find}
use Rattle.alike_cores.proofs.Common.{flat_map, is_doomed, is_spent, joined_client, length, list_any, map, map-append, members_of, names}
use Rattle.alike_cores.proofs.Common.{node_at, node_of, node_renamed, not, of, open_end_in, open_end_of, option_and_then, option_map}
use Rattle.alike_cores.proofs.Common.{option_map_or, parcel_renamed, readings_of, refl, some_strong_live, sym, total, true, ℕ, ◌&&◌, ◌++◌}
use Rattle.alike_cores.proofs.Common.{◌==◌, ◌||◌, ◌∙◌, ◌∷◌, ◌≡◌}
use Rattle.std.specs.Option.{is_some}
use Rattle.forest_store.specs.Forest.{all_nodes}
use Rattle.forest_store.specs.Settling.{buffer_names}
use Rattle.core_state.specs.Reads.{buffers_in, to_open_in}
use Rattle.alike_cores.specs.Alike.{IsRenamed}
use Rattle.alike_cores.proofs.Renamings.{members-renamed, node_of-renamed}
use Rattle.alike_cores.proofs.Forcings.{any_alike, filter_alike, find_alike, strong-renamed}
use Rattle.alike_cores.proofs.Settlings.{names-renamed}
use Rattle.alike_cores.proofs.Answering.{length-renamed}

-- ---- nodes and collections

-- By the list of collections.
pub nodes-renamed : (to : NodeKey → NodeKey) (id : ℕ → ℕ) (cs : List Collection) →
    flat_map (λ (c : Collection). c.nodes) (map (collection_renamed to id) cs)
    ≡ map (node_renamed to id) (flat_map (λ (c : Collection). c.nodes) cs)
nodes-renamed to id [] = refl
nodes-renamed to id (c ∷ cs) =
    ap (λ (l : List Node). map (node_renamed to id) c.nodes ++ l) (nodes-renamed to id cs)
    ∙ sym (map-append (node_renamed to id) c.nodes (flat_map (λ (c : Collection). c.nodes) cs))

-- The node is found among all nodes by its key.
node_at-renamed : (to : NodeKey → NodeKey) (id : ℕ → ℕ) → KeepsKeys to → (s t : State) → IsRenamed to id s t → (key : NodeKey) →
    node_at t.forest (to key) ≡ option_map (node_renamed to id) (node_at s.forest key)
node_at-renamed to id keeps s t same key =
    ap (λ (ns : List Node). node_of ns (to key)) (ap (flat_map (λ (c : Collection). c.nodes)) same.collections
    ∙ nodes-renamed to id s.forest.collections)
    ∙ node_of-renamed to id keeps (all_nodes s.forest) key

-- The collection is found by its number.
collection_at-renamed : (to : NodeKey → NodeKey) (id : ℕ → ℕ) → KeepsIds id → (s t : State) → IsRenamed to id s t →
    (collection : ℕ) →
    collection_at t.forest (id collection) ≡ option_map (collection_renamed to id) (collection_at s.forest collection)
collection_at-renamed to id ids s t same collection =
    ap (find (λ (c : Collection). c.id == id collection)) same.collections
    ∙ find_alike (λ (c : Collection). c.id == id collection) (λ (c : Collection). c.id == collection)
    (collection_renamed to id) (λ c. ids c.id collection) s.forest.collections

-- The collection that is found has the same buffers.
buffers-renamed : (to : NodeKey → NodeKey) (id : ℕ → ℕ) → KeepsIds id → (s t : State) → IsRenamed to id s t → (collection : ℕ) →
    buffers_in t (id collection) ≡ buffers_in s collection
buffers-renamed to id ids s t same collection =
    ap (λ (o : Option Collection). option_map_or (λ (c : Collection). c.buffers) o None)
    (collection_at-renamed to id ids s t same collection)
    ∙ from (collection_at s.forest collection)
  where
    -- by cases on the collection
    from : (o : Option Collection) → option_map_or (λ (c : Collection). c.buffers) (option_map (collection_renamed to id) o) None
        ≡ option_map_or (λ (c : Collection). c.buffers) o None
    from None = refl
    from (Some c) = refl

-- Buffer by buffer.
buffer_names-renamed : (to : NodeKey → NodeKey) (id : ℕ → ℕ) (c : Collection) →
    buffer_names (collection_renamed to id c) ≡ map (buffer_renamed id) (buffer_names c)
buffer_names-renamed to id c = from c.buffers
  where
    -- by cases on the buffers: the indexes stay
    from : (o : Option Buffers) → option_map_or (λ (b : Buffers). names (id c.id) b.count) o []
        ≡ map (buffer_renamed id) (option_map_or (λ (b : Buffers). names c.id b.count) o [])
    from None = refl
    from (Some b) = names-renamed id c.id b.count

-- the buffers of one collection that are not doomed
open_in-renamed : (to : NodeKey → NodeKey) (id : ℕ → ℕ) → KeepsKeys to → (s t : State) → IsRenamed to id s t → (c : Collection) →
    filter (λ b. not (is_doomed (total t.holds b Strength.Strong) (some_strong_live (members_of (map (node_renamed to id) c.nodes)))))
    (buffer_names (collection_renamed to id c))
    ≡ map (buffer_renamed id)
    (filter (λ b. not (is_doomed (total s.holds b Strength.Strong) (some_strong_live (members_of c.nodes)))) (buffer_names c))
open_in-renamed to id keeps s t same c =
    ap (filter (λ b. not (is_doomed (total t.holds b Strength.Strong)
    (some_strong_live (members_of (map (node_renamed to id) c.nodes)))))) (buffer_names-renamed to id c)
    ∙ filter_alike (λ b. not
    (is_doomed (total t.holds b Strength.Strong) (some_strong_live (members_of (map (node_renamed to id) c.nodes)))))
    (λ b. not (is_doomed (total s.holds b Strength.Strong) (some_strong_live (members_of c.nodes)))) (buffer_renamed id)
    (λ b i. not (is_doomed (same.total b Strength.Strong i) (strong i))) (buffer_names c)
  where
    -- since a member keeps its flags under its new key
    strong : some_strong_live (members_of (map (node_renamed to id) c.nodes)) ≡ some_strong_live (members_of c.nodes)
    strong = ap some_strong_live (members-renamed to id keeps c.nodes) ∙ strong-renamed to (members_of c.nodes)

-- The buffers that a Take opens are those of the collection that are not doomed.
to_open-renamed : (to : NodeKey → NodeKey) (id : ℕ → ℕ) → KeepsKeys to → KeepsIds id → (s t : State) → IsRenamed to id s t →
    (collection : ℕ) →
    to_open_in t (id collection) ≡ map (buffer_renamed id) (to_open_in s collection)
to_open-renamed to id keeps ids s t same collection =
    ap (λ (o : Option Collection). option_map_or
    (λ (c : Collection). filter (λ b. not (is_doomed (total t.holds b Strength.Strong) (some_strong_live (members_of c.nodes))))
    (buffer_names c)) o [])
    (collection_at-renamed to id ids s t same collection)
    ∙ from (collection_at s.forest collection)
  where
    -- by cases on the collection
    from : (o : Option Collection) →
        option_map_or (λ (c : Collection). filter
        (λ b. not (is_doomed (total t.holds b Strength.Strong) (some_strong_live (members_of c.nodes)))) (buffer_names c))
        (option_map (collection_renamed to id) o) []
        ≡ map (buffer_renamed id) (option_map_or
        (λ (c : Collection). filter (λ b. not (is_doomed (total s.holds b Strength.Strong) (some_strong_live (members_of c.nodes))))
        (buffer_names c)) o [])
    from None = refl
    from (Some c) = open_in-renamed to id keeps s t same c

-- ---- ends

-- Part by part of what an answer reads of an end.
end_of-renamed : (to : NodeKey → NodeKey) (id : ℕ → ℕ) → KeepsKeys to → KeepsIds id → (s t : State) → IsRenamed to id s t →
    (n : Node) →
    open_end_of t (node_renamed to id n) ≡ end_renamed to id (open_end_of s n)
end_of-renamed to id keeps ids s t same n =
    (λ i. record (open_end_of t (node_renamed to id n)) {
      buffers = cond n.allocated (buffers-renamed to id ids s t same n.collection i) None;
      to_open = cond n.allocated (to_open-renamed to id keeps ids s t same n.collection i) [];
    })
    ∙ from n.allocated
  where
    -- by cases on whether they may be opened
    from : (b : Bool) → record (end_renamed to id (open_end_of s n)) {
      buffers = cond n.allocated (buffers_in s n.collection) None;
      to_open = cond b (map (buffer_renamed id) (to_open_in s n.collection)) [];
    } ≡ record (end_renamed to id (open_end_of s n)) {
      buffers = cond n.allocated (buffers_in s n.collection) None;
      to_open = map (buffer_renamed id) (cond b (to_open_in s n.collection) []);
    }
    from true = refl
    from false = refl

-- The end is that of the node that is found.
end_in-renamed : (to : NodeKey → NodeKey) (id : ℕ → ℕ) → KeepsKeys to → KeepsIds id → (s t : State) → IsRenamed to id s t →
    (key : NodeKey) →
    end_in t (to key) ≡ option_map (end_renamed to id) (end_in s key)
end_in-renamed to id keeps ids s t same key =
    ap (option_and_then (open_end_in t)) (node_at-renamed to id keeps s t same key) ∙ from (node_at s.forest key)
  where
    -- by cases: a spent end is not read
    one : (n : Node) (b : Bool) → cond b None (Some (open_end_of t (node_renamed to id n)))
        ≡ option_map (end_renamed to id) (cond b None (Some (open_end_of s n)))
    one n true = refl
    one n false = ap Some (end_of-renamed to id keeps ids s t same n)

    -- by cases on the node
    from : (o : Option Node) → option_and_then (open_end_in t) (option_map (node_renamed to id) o)
        ≡ option_map (end_renamed to id) (option_and_then (open_end_in s) o)
    from None = refl
    from (Some n) = one n (is_spent n.end)

-- ---- clients

-- The client is found by its number, which stays.
client-renamed : (to : NodeKey → NodeKey) (id : ℕ → ℕ) (s t : State) → IsRenamed to id s t → (client : ℕ) →
    joined_client t client ≡ option_map (client_renamed to id) (joined_client s client)
client-renamed to id s t same client = ap (find (λ (c : Client). c.id == client)) same.clients
    ∙ find_alike (λ (c : Client). c.id == client) (λ (c : Client). c.id == client) (client_renamed to id) (λ c. refl) s.clients

-- By whether the client is there.
shut-renamed : (to : NodeKey → NodeKey) (id : ℕ → ℕ) (o : Option Client) →
    option_map_or (λ (c : Client). c.shut) (option_map (client_renamed to id) o) false ≡ option_map_or (λ (c : Client). c.shut) o false
shut-renamed to id None = refl
shut-renamed to id (Some c) = refl

-- By whether the client is there.
waiting-renamed : (to : NodeKey → NodeKey) (id : ℕ → ℕ) (o : Option Client) →
    option_map_or (λ (c : Client). c.waiting) (option_map (client_renamed to id) o) []
    ≡ map (parcel_renamed to id) (option_map_or (λ (c : Client). c.waiting) o [])
waiting-renamed to id None = refl
waiting-renamed to id (Some c) = refl

-- all that answers read of a renamed state is alike
pub readings-renamed : (to : NodeKey → NodeKey) (id : ℕ → ℕ) → KeepsKeys to → KeepsIds id → (s t : State) → IsRenamed to id s t →
    AreAlike to id (readings_of s) (readings_of t)
readings-renamed to id keeps ids s t same = record {
  joined = λ client. ap (list_any (λ (c : Client). c.id == client)) same.clients
      ∙ any_alike (λ (c : Client). c.id == client) (λ (c : Client). c.id == client) (client_renamed to id) (λ c. refl) s.clients;
  shut = λ client. ap (λ (o : Option Client). option_map_or (λ (c : Client). c.shut) o false) (client-renamed to id s t same client)
      ∙ shut-renamed to id (joined_client s client);
  ends = end_in-renamed to id keeps ids s t same;
  waiting = λ client. ap (λ (o : Option Client). option_map_or (λ (c : Client). c.waiting) o []) (client-renamed to id s t same client)
      ∙ waiting-renamed to id (joined_client s client);
  open_of = same.open_of;
  total = same.total;
  nodes = ap length (ap (flat_map (λ (c : Collection). c.nodes)) same.collections ∙ nodes-renamed to id s.forest.collections)
      ∙ length-renamed (node_renamed to id) (all_nodes s.forest);
  collections = ap length same.collections ∙ length-renamed (collection_renamed to id) s.forest.collections;
  unfired = same.unfired;
}
