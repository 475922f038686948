-- Finds, lines and reaches of renamed nodes.
use Rattle.alike_cores.proofs.Common.{Bool, Fault, KeepsKeys, List, Member, Node, NodeKey, None, Option, Some, [], after_loss, ap, cond}
use Rattle.alike_cores.proofs.Common.{false, fault_renamed, filter, find, is_taken, is_under, list_any, lost, map, member_of}
use Rattle.alike_cores.proofs.Common.{member_renamed, members_of, node_of, node_renamed, not, option_map, option_map_or, refl, reverse}
use Rattle.alike_cores.proofs.Common.{same_key, sym, true, ℕ, ◌&&◌, ◌||◌, ◌∙◌, ◌∷◌, ◌≡◌}
use Rattle.sm_names.specs.Changes.{blocks, highest}
use Rattle.sm_names.specs.Losses.{top}
use Rattle.forest_store.specs.Nodes.{above_among}
use Rattle.core_state.proofs.lists.Maps.{filter-map, list_any-map, map-map_In, map-reverse}

-- the node with the new key is the renamed one
pub node_of-renamed : (to : NodeKey → NodeKey) (id : ℕ → ℕ) → KeepsKeys to → (nodes : List Node) (key : NodeKey) →
    node_of (map (node_renamed to id) nodes) (to key) ≡ option_map (node_renamed to id) (node_of nodes key)
node_of-renamed to id keeps [] key = refl
node_of-renamed to id keeps (n ∷ nodes) key = rw (keeps n.key key) (
    elim (same_key n.key key) as (λ (b : Bool). cond b (Some (node_renamed to id n)) (node_of (map (node_renamed to id) nodes) (to key))
    ≡ option_map (node_renamed to id) (cond b (Some n) (node_of nodes key)))
    [ true ↦ refl | false ↦ node_of-renamed to id keeps nodes key ])

-- the line above it has the new keys
pub above-renamed : (to : NodeKey → NodeKey) (id : ℕ → ℕ) → KeepsKeys to → (nodes : List Node) (key : NodeKey) →
    above_among (map (node_renamed to id) nodes) (to key) ≡ map to (above_among nodes key)
above-renamed to id keeps [] key = refl
above-renamed to id keeps (n ∷ older) key = rw (keeps n.key key) (
    elim (same_key n.key key) as (λ (b : Bool).
    cond b (option_map_or (λ p. p ∷ above_among (map (node_renamed to id) older) p) (option_map to n.parent) [])
    (above_among (map (node_renamed to id) older) (to key))
    ≡ map to (cond b (option_map_or (λ p. p ∷ above_among older p) n.parent []) (above_among older key)))
    [ true ↦ from n.parent (above-renamed to id keeps older) | false ↦ above-renamed to id keeps older key ])
  where
    -- by cases: a root has none above it, and a parent has the new keys above
    from : (o : Option NodeKey) →
        ((p : NodeKey) → above_among (map (node_renamed to id) older) (to p) ≡ map to (above_among older p)) →
        option_map_or (λ p. p ∷ above_among (map (node_renamed to id) older) p) (option_map to o) []
        ≡ map to (option_map_or (λ p. p ∷ above_among older p) o [])
    from None on = refl
    from (Some p) on = ap (λ (l : List NodeKey). to p ∷ l) (on p)

-- what the forced steps read of a node
pub member-renamed : (to : NodeKey → NodeKey) (id : ℕ → ℕ) → KeepsKeys to → (nodes : List Node) (n : Node) →
    member_of (map (node_renamed to id) nodes) (node_renamed to id n) ≡ member_renamed to (member_of nodes n)
member-renamed to id keeps nodes n =
    let line : above_among (reverse (map (node_renamed to id) nodes)) (to n.key) ≡ map to (above_among (reverse nodes) n.key) =
    ap (λ (l : List Node). above_among l (to n.key)) (sym (map-reverse (node_renamed to id) nodes))
    ∙ above-renamed to id keeps (reverse nodes) n.key in
    λ i. record (member_renamed to (member_of nodes n)) { above = line i }

-- and of all nodes that are not gone
pub members-renamed : (to : NodeKey → NodeKey) (id : ℕ → ℕ) → KeepsKeys to → (nodes : List Node) →
    members_of (map (node_renamed to id) nodes) ≡ map (member_renamed to) (members_of nodes)
members-renamed to id keeps nodes =
    ap (map (member_of (map (node_renamed to id) nodes))) (filter-map (λ (n : Node). not n.gone) (node_renamed to id) nodes)
    ∙ each (filter (λ (n : Node). not n.gone) nodes)
  where
    -- by induction on the nodes
    each : (xs : List Node) → map (member_of (map (node_renamed to id) nodes)) (map (node_renamed to id) xs)
        ≡ map (member_renamed to) (map (member_of nodes) xs)
    each [] = refl
    each (x ∷ xs) = λ i. member-renamed to id keeps nodes x i ∷ each xs i

-- a key is among the new ones where the old one was
pub any-renamed : (to : NodeKey → NodeKey) → KeepsKeys to → (key : NodeKey) (keys : List NodeKey) →
    list_any (same_key (to key)) (map to keys) ≡ list_any (same_key key) keys
any-renamed to keeps key [] = refl
any-renamed to keeps key (k ∷ keys) = λ i. keeps key k i || any-renamed to keeps key keys i

-- the highest of a line
pub top-renamed : (to : NodeKey → NodeKey) (after before : NodeKey → Bool) → ((key : NodeKey) → after (to key) ≡ before key) →
    (node : NodeKey) (above : List NodeKey) → top after (to node) (map to above) ≡ to (top before node above)
top-renamed to after before same node [] = refl
top-renamed to after before same node (parent ∷ above) = rw (same node) (
    elim (before node) as (λ (b : Bool). cond b (to node) (top after (to parent) (map to above))
    ≡ to (cond b node (top before parent above)))
    [ true ↦ refl | false ↦ top-renamed to after before same parent above ])

-- the links of the members block alike
pub blocks-renamed : (to : NodeKey → NodeKey) → KeepsKeys to → (ms : List Member) (key : NodeKey) →
    list_any (λ n. same_key n.key (to key) && blocks n) (map (member_renamed to) ms) ≡ list_any (λ n. same_key n.key key && blocks n) ms
blocks-renamed to keeps [] key = refl
blocks-renamed to keeps (m ∷ ms) key = λ i. (keeps m.key key i && blocks m) || blocks-renamed to keeps ms key i

-- a loss reaches as high
pub highest-renamed : (to : NodeKey → NodeKey) → KeepsKeys to → (ms : List Member) (m : Member) →
    highest (map (member_renamed to) ms) (member_renamed to m) ≡ to (highest ms m)
highest-renamed to keeps ms m = top-renamed to _ _ (blocks-renamed to keeps ms) m.key m.above

-- and takes the same nodes
pub taken-renamed : (to : NodeKey → NodeKey) (id : ℕ → ℕ) → KeepsKeys to → (nodes : List Node) (key : NodeKey) (n : Node) →
    is_taken (map (node_renamed to id) nodes) (to key) (node_renamed to id n) ≡ is_taken nodes key n
taken-renamed to id keeps nodes key n = rw (node_of-renamed to id keeps nodes key) (from (node_of nodes key))
  where
    -- by cases on the origin: what is below the highest node stays so under the new keys
    from : (o : Option Node) → option_map_or
        (λ (origin : Node). is_under
        (highest (members_of (map (node_renamed to id) nodes)) (member_of (map (node_renamed to id) nodes) origin))
        (member_of (map (node_renamed to id) nodes) (node_renamed to id n)))
        (option_map (node_renamed to id) o) false
        ≡ option_map_or (λ (origin : Node). is_under (highest (members_of nodes) (member_of nodes origin)) (member_of nodes n)) o false
    from None = refl
    from (Some origin) =
        (λ i. is_under (highest (members-renamed to id keeps nodes i) (member-renamed to id keeps nodes origin i))
        (member-renamed to id keeps nodes n i))
        ∙ ap (λ (k : NodeKey). is_under k (member_renamed to (member_of nodes n)))
        (highest-renamed to keeps (members_of nodes) (member_of nodes origin))
        ∙ any-renamed to keeps (highest (members_of nodes) (member_of nodes origin)) (n.key ∷ (member_of nodes n).above)

-- a node fails by the new name of the fault
pub lost-renamed : (to : NodeKey → NodeKey) (id : ℕ → ℕ) (after before : Node → Bool) (fault : Fault) (n : Node) →
    after (node_renamed to id n) ≡ before n →
    lost after (fault_renamed to fault) (node_renamed to id n) ≡ node_renamed to id (lost before fault n)
lost-renamed to id after before fault n same = rw same (from (before n && not n.gone))
  where
    -- by cases: the node is taken and has the new fault, or keeps its own
    from : (b : Bool) → record (node_renamed to id n) {
      gone = before n || n.gone;
      fault = cond b (Some (fault_renamed to fault)) (option_map (fault_renamed to) n.fault);
    } ≡ record (node_renamed to id n) {
      gone = before n || n.gone;
      fault = option_map (fault_renamed to) (cond b (Some fault) n.fault);
    }
    from true = refl
    from false = refl

-- what a loss makes of the nodes
pub loss-renamed : (to : NodeKey → NodeKey) (id : ℕ → ℕ) → KeepsKeys to → (fault : Fault) (nodes : List Node) →
    after_loss (fault_renamed to fault) (map (node_renamed to id) nodes) ≡ map (node_renamed to id) (after_loss fault nodes)
loss-renamed to id keeps fault nodes = each nodes
  where
    -- by induction on the nodes
    each : (xs : List Node) →
        map (lost (is_taken (map (node_renamed to id) nodes) (to fault.origin)) (fault_renamed to fault)) (map (node_renamed to id) xs)
        ≡ map (node_renamed to id) (map (lost (is_taken nodes fault.origin) fault) xs)
    each [] = refl
    each (x ∷ xs) = λ i. lost-renamed to id (is_taken (map (node_renamed to id) nodes) (to fault.origin))
        (is_taken nodes fault.origin) fault x (taken-renamed to id keeps nodes fault.origin x) i ∷ each xs i
