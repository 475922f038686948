-- A node that is born: what the table has, and what stays true.
use Rattle.forest_store.proofs.Common.{◌≡◌, ℕ, ◌+◌, Bool, true, false, length, Option, Some, None, option_map, if◌then◌else◌}
use Rattle.forest_store.proofs.Common.{refl, sym, ap, ◌∙◌, inl, inr, arith, option_map_or, lt-ltb, NodeKey, same_key, Table}
use Rattle.forest_store.proofs.Common.{node_at, parent_at, Node, Result, IfOk, ne_eqb, cases_eq, get_or_past, Row, row_at}
use Rattle.forest_store.proofs.Common.{parent_in, was_given, Writes, table_with_node, key_cases, same_key-equal}
use Rattle.forest_store.proofs.Common.{same_key-apart, same_key-refl, is_live_node, is_unready, Bears, born, named, le-leb}
use Rattle.forest_store.proofs.Common.{Births, with_child}
use Rattle.forest_store.proofs.tables.Writing.{look-written, parents-written}
use Rattle.forest_store.proofs.tables.TakingOut.{still_node, still_parent}

-- ---- the table

-- a key that was given to none has no node
ungiven : (t : Table Node) (key : NodeKey) → t.first ≡ 0 → was_given t key ≡ false → node_at t key ≡ None
ungiven t key first fresh = grind (arith, cases_eq, le-leb, lt-ltb, ne_eqb)

-- a key that has a node was given
pub given_there : (t : Table Node) (key : NodeKey) (n : Node) → t.first ≡ 0 → node_at t key ≡ Some n → was_given t key ≡ true
given_there t key n first is = grind (arith, ungiven)

-- the tables give the same generation first
first_born : (t u : Table Node) (parent : Option NodeKey) (node : Node) (key : NodeKey) → Births t u parent node key → u.first ≡ t.first
first_born t u parent node key b =
    let far = length t.nexts + (length u.nexts + (key.slot + 1)) in
    sym (get_or_past u.nexts far u.first (omega arith)) ∙ b.nexts far (λ same. omega (arith, same))
    ∙ get_or_past t.nexts far t.first (omega arith)

-- what the table has once the node is born and written
pub born_look : (t u now : Table Node) (parent : Option NodeKey) (draft node : Node) → Births t u parent draft node.key →
    Writes u now node.key node → (k : NodeKey) → node_at now k ≡ (if same_key node.key k then Some node else node_at t k)
born_look t u now parent draft node b w k = look-written u now node.key node w k ∙ (elim (key_cases node.key k) [
  | inl same ↦
      let there : node_at u k ≡ Some draft = ap (node_at u) (sym same) ∙ ap (option_map (λ (row : Row Node). row.node)) b.born in
      rw (same_key-equal node.key k same, there) refl
  | inr differ ↦
      rw (same_key-apart node.key k differ) (ap (option_map (λ (row : Row Node). row.node)) (b.others k (λ same. differ (sym same)))
      ∙ still_node (with_child node.key) (λ row. refl) parent k (row_at t k))
])

-- the node has its parent in the table, and the others have theirs
born_parents : (t u now : Table Node) (parent : Option NodeKey) (draft node : Node) → node.parent ≡ parent →
    Births t u parent draft node.key → Writes u now node.key node → (k : NodeKey) →
    parent_at now k ≡ (if same_key node.key k then node.parent else parent_at t k)
born_parents t u now parent draft node up b w k = parents-written u now node.key node w k ∙ (elim (key_cases node.key k) [
  | inl same ↦ rw (same_key-equal node.key k same) (ap (parent_at u) (sym same) ∙ ap parent_in b.born ∙ sym up)
  | inr differ ↦ rw (same_key-apart node.key k differ) (ap parent_in (b.others k (λ same. differ (sym same)))
      ∙ still_parent (with_child node.key) (λ row. refl) parent k (row_at t k))
])

-- there is one more node
pub bears_node : (t u now : Table Node) (parent : Option NodeKey) (draft node : Node) → t.first ≡ 0 → node.parent ≡ parent →
    Births t u parent draft node.key → now ≡ table_with_node u node.key node → Writes u now node.key node → Bears t now node
bears_node t u now parent draft node first up b becomes w = record {
  look = born_look t u now parent draft node b w;
  parents = born_parents t u now parent draft node up b w;
  none = ungiven t node.key first b.fresh;
  gives = record {
    slot = b.slot;
    fresh = b.fresh;
    given = λ other. w.keys.given other ∙ b.given other;
    first = ap (λ (x : Table Node). x.first) becomes ∙ first_born t u parent draft node.key b;
    limit = w.keys.limit ∙ b.limit;
  };
  len = w.len ∙ b.longer;
}

-- a node that is born has its key
pub born_key : (above : Option Node) (attached : Bool) (id event client : ℕ) (key : NodeKey) →
    (born above attached id event client key).key ≡ key
born_key None attached id event client key = refl
born_key (Some above) attached id event client key = refl

-- and the one above as its parent
pub born_parent : (above : Option Node) (attached : Bool) (id event client : ℕ) (key : NodeKey) →
    (born above attached id event client key).parent ≡ option_map (λ (n : Node). n.key) above
born_parent None attached id event client key = refl
born_parent (Some above) attached id event client key = refl

-- it is as weak as the one above
pub born_weak : (above : Option Node) (attached : Bool) (id event client : ℕ) (key : NodeKey) →
    (born above attached id event client key).weak ≡ option_map_or (λ (n : Node). n.weak) above false
born_weak None attached id event client key = refl
born_weak (Some above) attached id event client key = refl

-- a node that is born is live
pub born_live : (above : Option Node) (attached : Bool) (id event client : ℕ) (key : NodeKey) →
    is_live_node (born above attached id event client key) ≡ true
born_live None attached id event client key = refl
born_live (Some above) attached id event client key = refl

-- and its unit waits for it
pub born_unready : (above : Option Node) (attached : Bool) (id event client : ℕ) (key : NodeKey) →
    is_unready (born above attached id event client key) ≡ true
born_unready None attached id event client key = refl
born_unready (Some above) attached id event client key = refl

-- with its key, the draft is the node that is born
born_named : (above : Option Node) (attached : Bool) (id event client : ℕ) (any key : NodeKey) →
    named key (born above attached id event client any) ≡ born above attached id event client key
born_named None attached id event client any key = refl
born_named (Some above) true id event client any key = refl
born_named (Some above) false id event client any key = refl

-- so the table has it
pub born_found : {t now : Table Node} (above : Option Node) (attached : Bool) (id event client : ℕ) (any key : NodeKey) {draft : Node} →
    draft ≡ born above attached id event client any → Bears t now (born above attached id event client key) →
    node_at now key ≡ Some (named key draft)
born_found above attached id event client any key is bears =
    bears.look key
    ∙ rw (ap (λ (k : NodeKey). same_key k key) (born_key above attached id event client key) ∙ same_key-refl key)
    (ap Some (sym (ap (named key) is ∙ born_named above attached id event client any key)))

-- so it is born
pub named_bears : {E : Type 0} (t now : Table Node) (above : Option Node) (attached : Bool) (id event client : ℕ) (any : NodeKey)
    (draft : Node) → draft ≡ born above attached id event client any → (result : Result NodeKey E) →
    IfOk result (λ key. Bears t now (named key draft)) →
    IfOk result (λ key. Bears t now (born above attached id event client key))
named_bears t now above attached id event client any draft is result bears = grind arith
