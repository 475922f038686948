-- A node that is removed: what it keeps, where it is not counted any more, and how it is written.
use Rattle.forest_store.proofs.Common.{In-map, all_on, ◌≡◌, ℕ, ◌==◌, refl, ap, sym, ◌∙◌, Bool, true, false, ◌||◌, ◌⊎◌, inl}
use Rattle.forest_store.proofs.Common.{inr, if◌then◌else◌, List, [], ◌∷◌, map, Option, Some, None, cons_option, list_all}
use Rattle.forest_store.proofs.Common.{list_any, NodeKey, same_key, In, either_way, same_key-refl, same_key-true, Table}
use Rattle.forest_store.proofs.Common.{node_at, Node, lives_in, waits_in, is_filed, nodes_with, and-false, RemovalKind, gone_by}
use Rattle.forest_store.proofs.Common.{all_of, is_strong, stored, written, camped, and-true, arith}
use Rattle.forest_store.proofs.changes.Finishing.{keys_in}
use Rattle.forest_store.proofs.lists.Lookups.{in_nodes, same_key-swap}
use Rattle.forest_store.proofs.lists.Elements.{In-made}
use Rattle.forest_store.proofs.quiescence.Steps.{all-In}
use Rattle.forest_store.proofs.tallies.Counting.{lives_gone, waits_gone}
use Rattle.forest_store.proofs.tallies.Reserved.{camped_but, camped_gone}
use Rattle.forest_store.proofs.tallies.Untold.{but}
use Rattle.forest_store.proofs.tables.Writing.{IsSameNode}

-- ---- one node that is removed

-- going changes only the mark and the fault
pub gone_same : (going : RemovalKind) (n : Node) → IsSameNode (gone_by going n) n
gone_same (RemovalKind.Fails fault) n = record { key = refl; parent = refl; attached = refl; collection = refl; head = refl }
gone_same RemovalKind.Leaves n = record { key = refl; parent = refl; attached = refl; collection = refl; head = refl }

-- the nodes with these keys go
abbrev pub goes_of : RemovalKind → List NodeKey → Node → Node
goes_of going keys n = if list_any (same_key n.key) keys then gone_by going n else n

-- its key is among those that go
pub goes_in : (going : RemovalKind) (keys : List NodeKey) (n : Node) → list_any (same_key n.key) keys ≡ true →
    goes_of going keys n ≡ gone_by going n
goes_in going keys n e = λ i. if e i then gone_by going n else n

-- its key is not
pub goes_not : (going : RemovalKind) (keys : List NodeKey) (n : Node) → list_any (same_key n.key) keys ≡ false → goes_of going keys n ≡ n
goes_not going keys n e = λ i. if e i then gone_by going n else n

-- either it is removed, which keeps the place, or it stays
pub same_of : (going : RemovalKind) (keys : List NodeKey) (n : Node) → IsSameNode (goes_of going keys n) n
same_of going keys n = elim (list_any (same_key n.key) keys) as (λ (b : Bool). IsSameNode (if b then gone_by going n else n) n) [
  | true ↦ gone_same going n
  | false ↦ record { key = refl; parent = refl; attached = refl; collection = refl; head = refl }
]

-- either it is removed, which keeps the allocation, or it stays
pub given_of : (going : RemovalKind) (keys : List NodeKey) (n : Node) → (goes_of going keys n).allocated ≡ n.allocated
given_of going keys n = grind arith

-- either it is removed now, or it is as before
pub gone_of : (going : RemovalKind) (keys : List NodeKey) (n : Node) →
    (goes_of going keys n).gone ≡ (list_any (same_key n.key) keys || n.gone)
gone_of going keys n = grind arith

-- ---- what is counted of nodes that go

-- a test that no node that is gone passes
but_is : (test : Node → Bool) → ((m : Node) → m.gone ≡ true → test m ≡ false) → (going : RemovalKind) (keys : List NodeKey) (n : Node) →
    test (goes_of going keys n) ≡ but test keys n
but_is test none going keys n = grind (arith, and-false, and-true)

-- a strong node is not gone
pub strong_gone : (m : Node) → m.gone ≡ true → is_strong m ≡ false
strong_gone m e = rw e refl

-- a node that is removed is not counted any more, and one that stays is counted as before
pub strong_but : (keys : List NodeKey) (going : RemovalKind) (n : Node) → is_strong (goes_of going keys n) ≡ but is_strong keys n
strong_but keys going n = but_is _ strong_gone _ keys n

-- the same for the live nodes of a unit
pub lives_but : (k : NodeKey) (keys : List NodeKey) (going : RemovalKind) (n : Node) →
    lives_in k (goes_of going keys n) ≡ but (lives_in k) keys n
lives_but k keys going n = but_is _ (lives_gone k) going keys n

-- the same for the nodes that a unit waits for
pub waits_but : (k : NodeKey) (keys : List NodeKey) (going : RemovalKind) (n : Node) →
    waits_in k (goes_of going keys n) ≡ but (waits_in k) keys n
waits_but k keys going n = but_is _ (waits_gone k) going keys n

-- a gone node camps on nothing
pub camped_of : (keys : List NodeKey) (going : RemovalKind) (n : Node) → camped (goes_of going keys n) ≡ camped_but keys n
camped_of keys going n = grind (arith, camped_gone)

-- ---- nodes that are written as they go

module _ (t : Table Node) (named : (key : NodeKey) (n : Node) → node_at t key ≡ Some n → n.key ≡ key) (going : RemovalKind) where
  -- a node whose key is among these is found by them
  pub in_looked : (ks : List NodeKey) (n : Node) → node_at t n.key ≡ Some n → list_any (same_key n.key) ks ≡ true → In n (nodes_with t ks)
  in_looked ks n is h = in_nodes t ks n.key n is h

  -- what is found by keys is filed
  pub filed_fallen : (id : ℕ) (ks : List NodeKey) → all_of id (nodes_with t ks) ≡ true →
      list_all (is_filed t id) (keys_in (map (gone_by going) (nodes_with t ks))) ≡ true
  filed_fallen id ks own = all_on (is_filed t id) (keys_in (map (gone_by going) (nodes_with t ks))) (λ k on.
      let a = In-map (λ (n : Node). n.key) _ k on in
      let b = In-map (gone_by going) _ a.0 a.1 in
      let x = In-made (node_at t) ks b.0 b.1 in
      let key : k ≡ x.0 = a.2 ∙ (ap (λ (n : Node). n.key) b.2 ∙ ((gone_same going b.0).key ∙ named x.0 b.0 x.2)) in
      rw (key, x.2) (all-In (λ (n : Node). n.collection == id) (nodes_with t ks) b.0 b.1 own))

  -- a node is written as gone if its key is among these
  pub stored_goes : (ks : List NodeKey) (n : Node) → node_at t n.key ≡ Some n → (x : Node) → (x ≡ n) ⊎ (x ≡ gone_by going n) →
      stored (map (gone_by going) (nodes_with t ks)) x ≡ (if list_any (same_key n.key) ks then gone_by going n else x)
  stored_goes [] n is x one = refl
  stored_goes (k ∷ ks) n is x one = by (λ y two. stored_goes ks n is y two) _ refl (either_way (same_key n.key k))
    where
      x_key : x.key ≡ n.key
      x_key = grind arith

      by : ((y : Node) → (y ≡ n) ⊎ (y ≡ gone_by going n) →
          stored (map (gone_by going) (nodes_with t ks)) y ≡ (if list_any (same_key n.key) ks then gone_by going n else y)) →
          (o : Option Node) → node_at t k ≡ o → (same_key n.key k ≡ true) ⊎ (same_key n.key k ≡ false) →
          stored (map (gone_by going) (cons_option o (nodes_with t ks))) x ≡ (if same_key n.key k || list_any (same_key n.key)
          ks then gone_by going n else x)
      by on None at (inl e) = let both : Some n ≡ None = sym is ∙ (ap (node_at t) (same_key-true _ k e) ∙ at) in cc
      by on None at (inr e) = on x one ∙ (λ i. if sym e i || list_any (same_key n.key) ks then gone_by going n else x)
      by on (Some m) at (inl e) = grind (arith, same_key-true, x_key, same_key-refl)
      by on (Some m) at (inr e) =
          let other : same_key (gone_by going m).key x.key ≡ false = ap (λ (j : NodeKey). same_key j x.key) ((gone_same going m).key
          ∙ named k m at) ∙ (ap (same_key k) x_key ∙ (same_key-swap k n.key ∙ e)) in
          let here : written (gone_by going m) x ≡ x = λ i. if other i then gone_by going m else x in
          ap (stored (map (gone_by going) (nodes_with t ks))) here
          ∙ (on x one
          ∙ (λ i. if sym e i || list_any (same_key n.key) ks then gone_by going n else x))
