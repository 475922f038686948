-- A collection where no step would be forced with a strong handle open: none is while a strong
-- node lives.
use Rattle.forest_store.proofs.Common.{is_strong, ◌≡◌, refl, ap, sym, ◌∙◌, Bool, true, false, not, ◌&&◌, ◌||◌, inl, inr, List, []}
use Rattle.forest_store.proofs.Common.{◌∷◌, map, reverse, Option, Some, None, is_none, is_some, arith, not-true, list_any, list_all}
use Rattle.forest_store.proofs.Common.{find, filter, option_map_or, option_and_then, NodeKey, Buffers, same_key, when, times, In}
use Rattle.forest_store.proofs.Common.{either_way, Node, strong_count, has_strong, waiting, Collection, with_nodes, IsWhole}
use Rattle.forest_store.proofs.Common.{members_of, node_of, is_deserted_node, is_live_node, is_next_node, is_ready_node, is_root_left}
use Rattle.forest_store.proofs.Common.{is_deserted, is_next_head, Member, is_ready, root_left, first_some, In-filter, In-filter-back}
use Rattle.forest_store.proofs.Common.{map-In, none_is, map-None, IsQuiescent, Decision, decided, later_step, above_among, member_of}
use Rattle.forest_store.proofs.Common.{is_allocated_node, is_below, lives_below, option_map, or-true, filter-swap, filter-all}
use Rattle.forest_store.proofs.tables.Chains.{one_line}
use Rattle.forest_store.proofs.quiescence.Forcing.{deserted_tie, next_tie, ready_tie, root_tie}
use Rattle.forest_store.proofs.tables.KeptRoots.{map-reverse_aux, rooted_filter}
use Rattle.forest_store.proofs.tables.Rooted.{IsRooted, left_in, line_of, whole_rooted}
use Rattle.forest_store.proofs.quiescence.Steps.{found_by_key}
use Rattle.forest_store.proofs.tallies.Amounts.{times_filter}
pub use Rattle.forest_store.proofs.lists.Elements.{any_map, find_map, times_map}
use Rattle.forest_store.proofs.lists.Elements.{all_map}

-- ---- the steps

-- the allocation of an attached unit that is due, if any
abbrev pub later : List Node → Option Buffers → Option Decision
later nodes buffers = option_and_then (λ b. option_map (λ (n : Node). later_step nodes b n.key) (find (is_next_node nodes) nodes)) buffers

-- no node is deserted, the root unit waits or has its buffers, and no attached unit is next
pub record AreNone (nodes : List Node) (buffers : Option Buffers) : Type 0 where
  pub no_end : find (is_deserted_node nodes) nodes ≡ None
  pub no_root : waiting nodes ≡ None
  pub no_head : later nodes buffers ≡ None

-- none of four
four_none : (a b c d : Option Decision) → first_some (a ∷ b ∷ c ∷ d ∷ []) ≡ None → (a ≡ None) × (b ≡ None) × (c ≡ None) × (d ≡ None)
four_none a b c d h = grind arith

-- where nothing is decided, no step is left
pub decided_parts : (nodes : List Node) (buffers : Option Buffers) (strong_open : Bool) → decided nodes buffers strong_open ≡ None →
    AreNone nodes buffers
decided_parts nodes _ strong_open h =
    let n = four_none _ _ _ _ h in
    record {
      no_end = map-None _ _ n.0;
      no_root = map-None _ _ n.2;
      no_head = n.3;
    }

-- with a strong node, or a strong handle open, no root is abandoned, so nothing is decided
pub none_decided : (nodes : List Node) (buffers : Option Buffers) (strong_open : Bool) → (has_strong nodes || strong_open) ≡ true →
    AreNone nodes buffers → decided nodes buffers strong_open ≡ None
none_decided nodes buffers strong_open some none = grind arith

-- where none of the four steps is left, none is decided: the second is excluded by the open handle
pub calm_none : (c : Collection) → AreNone c.nodes c.buffers → IsQuiescent c
calm_none c none = none_decided _ _ _ (or-true (has_strong c.nodes)) none

-- and the other way round: a calm collection has none of them left
pub none_calm : (c : Collection) → IsQuiescent c → AreNone c.nodes c.buffers
none_calm c calm = decided_parts _ _ true calm

-- ---- counts

-- some pass exactly where the count is not 0
pub count_some : (test : Node → Bool) (ns : List Node) → (times test ns ≡ 0 → ⊥) → list_any test ns ≡ true
count_some test [] some = absurd (some refl)
count_some test (n ∷ ns) some = grind (arith, count_some test ns)

-- and where it is 0 none passes
pub count_none : (test : Node → Bool) (ns : List Node) → times test ns ≡ 0 → list_any test ns ≡ false
count_none test [] none = refl
count_none test (n ∷ ns) none = grind (arith, count_none test ns)

-- ---- nodes that are gone are left out

-- the tie of the root that waits
pub wait_tie : (nodes : List Node) →
    option_map_or (λ (root : Member). not root.allocated && is_ready root.key (members_of nodes)) (root_left (members_of nodes))
    false ≡ is_some (waiting nodes)
wait_tie nodes =
    ap (λ (o : Option Member). option_map_or (λ (root : Member). not root.allocated && is_ready root.key (members_of nodes)) o false)
    (root_tie nodes)
    ∙ from _
  where
    -- by cases on the test
    told : (b : Bool) (root : Node) → b ≡ is_some (when b root)
    told true root = refl
    told false root = refl

    -- by cases on the root: a node is as ready as its member
    from : (o : Option Node) → option_map_or (λ (root : Member). not root.allocated && is_ready root.key (members_of nodes))
        (option_map (member_of nodes) o) false
        ≡ is_some (option_and_then (λ (root : Node). when (not root.allocated && list_all (is_ready_node root.key) nodes) root) o)
    from o = grind (arith, ready_tie, told)

-- nodes with the same members are as calm
pub none_same : (old new : List Node) (buffers : Option Buffers) → members_of new ≡ members_of old → AreNone old buffers →
    AreNone new buffers
none_same old new buffers same none = record {
  no_end = map-None (member_of new) (find (is_deserted_node new) new)
      (sym (deserted_tie new) ∙ ap (λ (ms : List Member). find (is_deserted ms) ms) same ∙ deserted_tie old
      ∙ ap (option_map (member_of old)) none.no_end);
  no_root = none_is (waiting new)
      (sym (wait_tie new)
      ∙ ap (λ (ms : List Member). option_map_or (λ (root : Member). not root.allocated && is_ready root.key ms) (root_left ms) false) same
      ∙ wait_tie old ∙ ap is_some none.no_root);
  no_head = from buffers none.no_head;
}
  where
    -- by cases: without buffers no unit comes next, and with them the same member does
    from : (o : Option Buffers) → later old o ≡ None → later new o ≡ None
    from None h = refl
    from (Some b) h = ap (option_map (λ (n : Node). later_step new b n.key))
        (map-None _ _
        (sym (next_tie new) ∙ ap (λ (ms : List Member). find (is_next_head ms) ms) same ∙ next_tie old
        ∙ ap (option_map (member_of old)) (map-None _ _ h)))

module _ (c : Collection) (whole : IsWhole c) (p : Node → Bool) (over : (n : Node) → In n c.nodes → p n ≡ false → n.gone ≡ true) where
  -- the nodes of the collection, gone ones among them
  abbrev nodes : List Node
  nodes = c.nodes

  -- the nodes hang on their parents, as the collection is whole
  old : IsRooted nodes
  old = whole_rooted c whole

  -- those that pass the test do so too, since only gone nodes fail it
  fewer : IsRooted (filter p nodes)
  fewer = rooted_filter _ old p over

  -- the parent of the node with a key, if there is such a node and it has a parent
  abbrev up : NodeKey → Option NodeKey
  up key = option_map_or (λ (n : Node). n.parent) (node_of nodes key) None

  -- a node that is not gone is found by its key, so its parent is found
  linked : (n : Node) → In n nodes → n.gone ≡ false → up n.key ≡ n.parent
  linked n on here = ap (λ (o : Option Node). option_map_or (λ (m : Node). m.parent) o None) (found_by_key _ n whole.sound.distinct on)

  -- a node that is not gone passes the test, since one that fails it is gone
  passes : (n : Node) → In n nodes → n.gone ≡ false → p n ≡ true
  passes n on here = grind arith

  -- above a node that is not gone lie the same nodes
  above_same : (n : Node) → In n nodes → n.gone ≡ false → above_among (reverse (filter p nodes)) n.key ≡ above_among (reverse nodes) n.key
  above_same n on here = one_line _ _ _ _
      (line_of _ _ fewer.one (λ m there stays. linked m (In-filter p _ m there).0 stays) fewer.rooted _
      (left_in _ n (In-filter-back p _ n on (passes n on here)) here)).chain
      (line_of _ _ old.one linked old.rooted _ (left_in _ n on here)).chain

  -- the members are the nodes that are not gone, and each of these passes
  members_filter : members_of (filter p nodes) ≡ members_of nodes
  members_filter = ap (map (member_of (filter p nodes)))
      (filter-swap _ p nodes
      ∙ filter-all p _ (λ n on. let x = In-filter _ _ n on in passes n x.0 (not-true n.gone x.1)))
      ∙ map-In _ _ _
      (λ n on. let x = In-filter _ _ n on in
      λ i. record (member_of nodes n) { above = above_same n x.0 (not-true n.gone x.1) i })

  -- so the collection stays calm without nodes that are gone
  pub calm_filter : IsQuiescent c → IsQuiescent (with_nodes (filter p) c)
  calm_filter calm = calm_none (with_nodes (filter p) c) (none_same _ (filter p nodes) _ members_filter (none_calm c calm))

-- and its count stays
pub strong_filter : (p : Node → Bool) (ns : List Node) → ((n : Node) → In n ns → p n ≡ false → n.gone ≡ true) →
    strong_count (filter p ns) ≡ strong_count ns
strong_filter p ns over = times_filter p is_strong ns (λ n on out. rw (over n on out) refl)

-- ---- nodes of which a call changed something

-- what the forced steps read of a node but its weakness
pub record IsPlain (m n : Node) : Type 0 where
  pub key : m.key ≡ n.key
  pub parent : m.parent ≡ n.parent
  pub attached : m.attached ≡ n.attached
  pub head : m.head ≡ n.head
  pub allocated : m.allocated ≡ n.allocated
  pub gone : m.gone ≡ n.gone
  pub released : m.released ≡ n.released
  pub asks : is_some m.constraints ≡ is_some n.constraints

module _ (nodes : List Node) (f : Node → Node) (plain : (n : Node) → IsPlain (f n) n) where
  -- the nodes after the change that f makes of each
  abbrev now : List Node
  now = map f nodes

  -- the map keeps keys and parents, and those above a key are found by these alone
  above_map : (ns : List Node) (key : NodeKey) → above_among (map f ns) key ≡ above_among ns key
  above_map [] key = refl
  above_map (n ∷ older) key = rw ((plain n).key, (plain n).parent, above_map older key)
      (elim (either_way (same_key n.key key)) [
        | inl e ↦ rw e (from (above_map older) n.parent)
        | inr e ↦ rw e refl
      ])
    where
      from : ((p : NodeKey) → above_among (map f older) p ≡ above_among older p) → (o : Option NodeKey) →
          option_map_or (λ parent. parent ∷ above_among (map f older) parent) o [] ≡ option_map_or (λ parent.
          parent ∷ above_among older parent) o []
      from on None = refl
      from on (Some p) = ap (λ ks. p ∷ ks) (on p)

  -- a node lies below another as before, since the same nodes lie above it
  below_map : (top key : NodeKey) → is_below now top key ≡ is_below nodes top key
  below_map top key = ap (λ ks. list_any (same_key top) (key ∷ ks))
      (ap (λ (ns : List Node). above_among ns key) (sym (map-reverse_aux f nodes _)) ∙ above_map _ key)

  -- being live and lying below are kept by the map
  lives_map : (top : NodeKey) (n : Node) → lives_below now top (f n) ≡ lives_below nodes top n
  lives_map top n =
      (λ i. (not ((plain n).gone i) && not ((plain n).released i)) && is_below now top ((plain n).key i))
      ∙ ap (λ (b : Bool). is_live_node n && b) (below_map top n.key)

  -- a unit is deserted if no live node lies below its head, and both are kept
  deserted_map : (n : Node) → is_deserted_node now (f n) ≡ is_deserted_node nodes n
  deserted_map n =
      (λ i. (is_none ((plain n).parent i) || (plain n).attached i) && (not ((plain n).gone i) && not
      (list_any (lives_below now ((plain n).key i)) now)))
      ∙ ap (λ (b : Bool). (is_none n.parent || n.attached) && (not n.gone && not b))
      (any_map _ _ f nodes (lives_map n.key))

  -- whether a node is ready is read from its flags and head, which are kept
  ready_map : (head : NodeKey) → list_all (is_ready_node head) now ≡ list_all (is_ready_node head) nodes
  ready_map head = grind (arith, all_map)

  -- being allocated is read from flags and the key, which are kept
  allocated_map : (key : NodeKey) → list_any (is_allocated_node key) now ≡ list_any (is_allocated_node key) nodes
  allocated_map key = grind (arith, any_map)

  -- whether a head is next is read from its flags, its parent and its unit, which are kept
  next_map : (n : Node) → is_next_node now (f n) ≡ is_next_node nodes n
  next_map n =
      (λ i. (plain n).attached i && (not ((plain n).gone i) && (not ((plain n).allocated i)
      && (option_map_or (λ parent. allocated_map parent i) ((plain n).parent i) false && list_all (is_ready_node ((plain n).key i)) now))))
      ∙ ap (λ (b : Bool). n.attached && (not n.gone && (not n.allocated && (option_map_or (λ parent.
      list_any (is_allocated_node parent) nodes) n.parent false && b)))) (ready_map n.key)

  -- being a root that is left is read from the parent and the flag, which are kept
  root_map : find is_root_left now ≡ option_map f (find is_root_left nodes)
  root_map = find_map _ _ f nodes (λ n. λ i. is_none ((plain n).parent i) && not ((plain n).gone i))

  -- no root waits where none did: the same root is found, and its unit is as ready
  wait_map : (o : Option Node) →
      option_and_then (λ (root : Node). when (not root.allocated && list_all (is_ready_node root.key) nodes) root) o ≡ None →
      option_and_then (λ (root : Node). when (not root.allocated && list_all (is_ready_node root.key) now) root) (option_map f o) ≡ None
  wait_map o h = grind (arith, ready_map)

  -- so none of the steps is left
  pub none_map : (buffers : Option Buffers) → AreNone nodes buffers → AreNone now buffers
  none_map buffers none = record {
    no_end = find_map (is_deserted_node now) (is_deserted_node nodes) f nodes deserted_map ∙ ap (option_map f) none.no_end;
    no_root = ap (option_and_then (λ (root : Node). when (not root.allocated && list_all (is_ready_node root.key) now) root)) root_map
        ∙ wait_map (find is_root_left nodes) none.no_root;
    no_head = from buffers none.no_head;
  }
    where
      from : (o : Option Buffers) → later nodes o ≡ None → later now o ≡ None
      from None h = refl
      from (Some b) h = ap (option_map (λ (n : Node). later_step now b n.key))
          (find_map _ _ f nodes next_map
          ∙ ap (option_map f) (map-None _ _ h))

-- and the collection stays calm
pub calm_map : (c : Collection) (f : Node → Node) → ((n : Node) → IsPlain (f n) n) → IsQuiescent c → IsQuiescent (with_nodes (map f) c)
calm_map c f plain calm = calm_none (with_nodes (map f) c) (none_map _ f plain _ (none_calm c calm))
