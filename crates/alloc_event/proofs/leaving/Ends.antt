-- What stays true of a forest where the end of a node is put elsewhere.
use Rattle.alloc_event.proofs.Common.{AllByRecursion, AreCounted, CollectionRow, End, Entry, IsStored, List, Node, NodeKey, Some, Table}
use Rattle.alloc_event.proofs.Common.{Writes, ap, are_filed, forest_of, is_unkept, map, node_at, on_collections, option_map, refl}
use Rattle.alloc_event.proofs.Common.{rows_of, same_key-equal, subst, sym, table_with_node, true, with_end, with_nodes, ◌≡◌, ◌≢◌}
use Rattle.node_table.proofs.Keys.{same_key-apart}
use Rattle.forest_store.specs.Unkept.{IsNotedIn}
use Rattle.forest_store.proofs.quiescence.Together.{together_same}
use Rattle.forest_store.proofs.rows.Counted.{ends_tidy, mapped_all}
use Rattle.forest_store.proofs.tables.Writing.{IsSameNode, look-changed, kept-map, collections-map, parents-written}

module _ (key : NodeKey) (end : End) where
  -- nothing of a node but its end changes
  same_node : (n : Node) → IsSameNode (with_end key end n) n
  same_node n = record { key = refl; parent = refl; attached = refl; collection = refl; head = refl }

  -- the node of the key has the end
  ends-own : (n : Node) → n.key ≡ key → with_end key end n ≡ record n { end = end }
  ends-own n own = rw (same_key-equal key _ (sym own)) refl

  -- and no other
  ends-others : (n : Node) → n.key ≢ key → with_end key end n ≡ n
  ends-others n other = rw (same_key-apart key _ (λ same. other (sym same))) refl

  module _ {t now : Table Node} {n : Node} (was : node_at t key ≡ Some n) (named : n.key ≡ key)
      (w : Writes t now n.key (record n { end = end })) where
    -- what the table has at each key
    pub ends-look : ((k : NodeKey) (m : Node) → node_at t k ≡ Some m → m.key ≡ k) → (k : NodeKey) →
        node_at now k ≡ option_map (with_end key end) (node_at t k)
    ends-look knows k = look-changed t now (with_end key end) key n (record n { end = end }) (subst (λ x.
        Writes t now x (record n { end = end })) named w) was (ends-own n named) knows ends-others k

    -- the forest stays sound
    pub ends-kept : {es : List CollectionRow} → now ≡ table_with_node t n.key (record n { end = end }) → IsStored t es → IsStored now es
    ends-kept {es} becomes ok =
        kept-map _ same_node (λ m. refl) (λ ns. together_same ns (with_end key end)
        (record { key = λ m. refl; head = λ m. refl; allocated = λ m. refl; gone = λ m. refl })) t now
        (ap (λ (x : Table Node). x.first) becomes) (ap (λ (x : Table Node). x.nexts) becomes) w.len (ends-look ok.named)
        (parents-written t now _ _ w) es ok

    -- and shows the end
    pub ends-shown : {es : List CollectionRow} → now ≡ table_with_node t n.key (record n { end = end }) → IsStored t es →
        forest_of now es ≡ on_collections (with_nodes (map (with_end key end))) (forest_of t es)
    ends-shown {es} becomes ok = λ i. record {
      limit = (ap (λ (x : Table Node). x.limit) becomes) i;
      collections = (collections-map _ same_node t now (ends-look ok.named) es) i;
      nexts = (ap (λ (x : Table Node). x.nexts) becomes) i;
    }

    -- what is counted of a node is not its end; a node that is unkept by that is noted by its own entry
    pub ends-counted : ((k : NodeKey) (m : Node) → node_at t k ≡ Some m → m.key ≡ k) → (es : List Entry) →
        are_filed t (rows_of es) ≡ true → AreCounted t es →
        (is_unkept (record n { end = end }) ≡ true → AllByRecursion (λ (e : Entry). e.id ≡ n.collection → IsNotedIn e key) es) →
        AreCounted now es
    ends-counted knows es filed counted noted =
        mapped_all t now (with_end key end)
        (λ m. record {
          key = refl;
          parent = refl;
          attached = refl;
          head = refl;
          allocated = refl;
          gone = refl;
          released = refl;
          asks = refl;
        })
        (λ m. refl) (λ m. refl) (ends-look knows) es (ends_tidy t knows key end n was es filed counted noted) counted
