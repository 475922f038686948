-- Nodes stay of the collections of their parents.
use Rattle.forest_store.proofs.Common.{◌≡◌, Some, sym, ◌∙◌, NodeKey, Table, node_at, parent_at, Node, AreKin}

-- where each node that is there was there, of the same collection, and no key has another parent
pub kin_kept : (t now : Table Node) → ((key : NodeKey) (n : Node) → node_at now key ≡ Some n →
    (m : Node) × (node_at t key ≡ Some m) × (n.collection ≡ m.collection)) →
    ((key p : NodeKey) → parent_at now key ≡ Some p → parent_at t key ≡ Some p) → AreKin t → AreKin now
kin_kept t now was fewer kin key p n q is up above =
    let low = was key n is in
    let high = was p q above in
    high.2 ∙ kin key p low.0 high.0 low.1 (fewer key p up) high.1 ∙ sym low.2
