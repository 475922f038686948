-- Nodes that are written one after another, each in the place of the one with its key.
use Rattle.forest_store.proofs.Common.{◌≡◌, Bool, true, false, List, [], ◌∷◌, ◌++◌, ◌⊎◌, inl, inr, Option, Some, None, option_map, is_some}
use Rattle.forest_store.proofs.Common.{cond, if◌then◌else◌, refl, ap, ◌∙◌, false≢true, NodeKey, same_key, In, either_way, same_key-true}
use Rattle.forest_store.proofs.Common.{Table, node_at, Node, IsSome, Row, row_at, Writes, table_with_node, written, stored, Stores, arith}
use Rattle.forest_store.proofs.lists.Lookups.{nothing}
use Rattle.forest_store.proofs.tables.Writing.{look-written, parents-written}

-- a node that is written has the key of the other
written-key : (m n : Node) → (written m n).key ≡ n.key
written-key m n = elim (either_way (same_key m.key n.key)) [ inl e ↦ rw e (same_key-true _ _ e) | inr e ↦ rw e refl ]

-- so after all
pub stored-key : (ms : List Node) (n : Node) → (stored ms n).key ≡ n.key
stored-key [] n = refl
stored-key (m ∷ ms) n = stored-key ms (written m n) ∙ written-key m n

-- the last one is written last
stored-push : (ms : List Node) (m n : Node) → stored (ms ++ m ∷ []) n ≡ written m (stored ms n)
stored-push [] m n = refl
stored-push (x ∷ xs) m n = stored-push xs m (written x n)

-- a row with a node is there
pub row_there : (t : Table Node) (key : NodeKey) → is_some (node_at t key) ≡ true → IsSome (row_at t key)
row_there t key = by _
  where
    -- by cases: without a row there is no node
    by : (o : Option (Row Node)) → is_some (option_map (λ (row : Row Node). row.node) o) ≡ true → IsSome o
    by None h = absurd (false≢true h)
    by (Some row) h = refl

-- a row that is there has a node
pub node_there : (t : Table Node) (key : NodeKey) → IsSome (row_at t key) → (n : Node) × (node_at t key ≡ Some n)
node_there t key there = by (row_at t key) there
  where
    -- by cases: a row has its node
    by : (o : Option (Row Node)) → IsSome o → (n : Node) × (option_map (λ (row : Row Node). row.node) o ≡ Some n)
    by None some = absurd (cc)
    by (Some row) some = (row.node, refl)

-- a node as it is stored is one of those, or as it was
pub stored_one : (ns : List Node) (n : Node) → (stored ns n ≡ n) ⊎ In (stored ns n) ns
stored_one [] n = inl refl
stored_one (m ∷ ms) n = grind (arith, stored_one ms (written m n))

-- nothing is changed
unmapped : (o : Option Node) → o ≡ option_map (stored []) o
unmapped None = refl
unmapped (Some n) = refl

-- one of the two is there
some_there : (b : Bool) (n m : Node) → cond {A = Option Node} b (Some n) (Some m) ≡ Some (cond b n m)
some_there true n m = refl
some_there false n m = refl

-- nothing is written
pub Stores-none : (t : Table Node) → Stores t t []
Stores-none t = record {
  look = λ key. unmapped (node_at t key);
  parents = λ key. refl;
  same = record { first = refl; nexts = refl; limit = refl; len = refl };
}

-- by what was there
more-by : (ns : List Node) (n : Node) (key : NodeKey) (o : Option Node) → ((m : Node) → o ≡ Some m → m.key ≡ key) →
    (if same_key n.key key then option_map (λ _. n) (option_map (stored ns) o) else option_map (stored ns) o) ≡ option_map
    (stored (ns ++ n ∷ [])) o
more-by ns n key o named = grind (arith, nothing, stored-key, stored-push, some_there)

-- one more is written
pub Stores-more : (t u now : Table Node) (ns : List Node) (n : Node) → ((key : NodeKey) (m : Node) → node_at t key ≡ Some m → m.key ≡ key) →
    Stores t u ns → now ≡ table_with_node u n.key n → Writes u now n.key n → Stores t now (ns ++ n ∷ [])
Stores-more t u now ns n named stores becomes w = record {
  look = λ key. look-written u now n.key n w key ∙ rw (stores.look key) (more-by ns n key (node_at t key) (named key));
  parents = λ key. parents-written u now n.key n w key ∙ stores.parents key;
  same = record {
    first = ap (λ (x : Table Node). x.first) becomes ∙ stores.same.first;
    nexts = ap (λ (x : Table Node). x.nexts) becomes ∙ stores.same.nexts;
    limit = ap (λ (x : Table Node). x.limit) becomes ∙ stores.same.limit;
    len = w.len ∙ stores.same.len;
  };
}
