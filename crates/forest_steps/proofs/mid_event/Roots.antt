-- The root of a collection: what its loss takes, and that it is lost where the buffers are abandoned.
use Rattle.forest_steps.proofs.Common.{◌≡◌, refl, ap, sym, ◌∙◌, subst, Bool, true, false, ◌&&◌, inl, inr, List, [], ◌∷◌, reverse, Option}
use Rattle.forest_steps.proofs.Common.{Some, None, not-true, find, option_map_or, NodeKey, Buffers, Cause, In, In-map, and_left, and_right}
use Rattle.forest_steps.proofs.Common.{either_way, or_left, or_right, Table, node_at, Node, has_strong, Collection, IsWhole, nodes_with}
use Rattle.forest_steps.proofs.Common.{is_deserted_node, is_root_left, Fault, In-reverse, In-reverse-back, Loses, decided, has_given_root}
use Rattle.forest_steps.proofs.Common.{above_among, after_loss, is_taken, is_below, found_by_key, left_in, arith, one_line}
use Rattle.forest_steps.proofs.tables.Upward.{below_parent, below_self, chain, up}
use Rattle.forest_steps.proofs.failures.AllGone.{AreGone, all_hang, one_root}

-- ---- what its loss takes

module _ {c : Collection} (whole : IsWhole c) (r : Node) (on : In r c.nodes) (here : r.gone ≡ false) (root : r.parent ≡ None) where
  -- nothing lies above it
  no_line : above_among (reverse c.nodes) r.key ≡ []
  no_line =
      one_line (up whole) r.key _ []
      (chain whole r.key (left_in _ r on here))
      (ap (λ o. option_map_or (λ (m : Node). m.parent) o None) (found_by_key _ r whole.sound.distinct on) ∙ root)

  -- the root is the highest of what its loss takes
  taken_below : (n : Node) → is_taken c.nodes r.key n ≡ is_below c.nodes r.key n.key
  taken_below n = grind (arith, found_by_key, no_line)

  -- all that is left lies below it
  pub below_root : (n : Node) → In n c.nodes → n.gone ≡ false → is_below c.nodes r.key n.key ≡ true
  below_root n there stays =
      all_hang _ c.nodes
      (λ x in_nodes left none. subst (λ (y : Node). is_below c.nodes r.key y.key ≡ true)
      (one_root _ whole.sound.one_root r x on in_nodes root none)
      (below_self whole r.key))
      (λ p x in_nodes left above under.
      below_parent whole _ x in_nodes left above under)
      _ (λ x in_nodes. In-reverse _ x in_nodes) whole.rooted n (In-reverse-back _ n there) stays

  -- so all are gone once it is lost
  pub all_lost : (fault : Fault) → fault.origin ≡ r.key → AreGone (after_loss fault c.nodes)
  all_lost fault begins n there =
      let x = In-map _ _ n there in
      ap (λ (m : Node). m.gone) x.2 ∙ elim (either_way x.0.gone) [
        | inl e ↦ or_right _ _ e
        | inr e ↦ or_left _ _ (ap (λ k. is_taken c.nodes k x.0) begins ∙ taken_below x.0 ∙ below_root x.0 x.1 e)
      ]

-- ---- where it is

-- the first node, a root that is not gone and has its buffers
pub record IsGivenRoot (t : Table Node) (keys : List NodeKey) : Type 0 where
  pub node : Node
  pub rest : List NodeKey
  pub keys_are : keys ≡ node.key ∷ rest
  pub there : node_at t node.key ≡ Some node
  pub left : is_root_left node ≡ true
  pub allocated : node.allocated ≡ true

-- by cases on the first key
pub given_root : (t : Table Node) → ((key : NodeKey) (n : Node) → node_at t key ≡ Some n → n.key ≡ key) → (keys : List NodeKey) →
    has_given_root t keys ≡ true → IsGivenRoot t keys
given_root t named [] given = let no : false ≡ true = given in absurd (cc)
given_root t named (k ∷ ks) given = from (node_at t k) refl given
  where
    -- by cases: the first key finds no node, or a root with buffers
    from : (o : Option Node) → node_at t k ≡ o → option_map_or (λ (n : Node). is_root_left n && n.allocated) o false ≡ true →
        IsGivenRoot t (k ∷ ks)
    from None is h = let no : false ≡ true = h in absurd (cc)
    from (Some n) is h = record {
      node = n;
      rest = ks;
      keys_are = ap (λ x. x ∷ ks) (sym (named k n is));
      there = ap (node_at t) (named k n is) ∙ is;
      left = and_left _ _ h;
      allocated = and_right _ _ h;
    }

module _ {t : Table Node} {keys : List NodeKey} (r : IsGivenRoot t keys) where
  -- the root's key is the first
  nodes_are : nodes_with t keys ≡ r.node ∷ nodes_with t r.rest
  nodes_are = ap (nodes_with t) r.keys_are ∙ rw r.there refl

  -- so it is the first node
  pub root_on : In r.node (nodes_with t keys)
  root_on = subst (In r.node) (sym nodes_are) (inl refl)

  -- the root is left
  pub root_here : r.node.gone ≡ false
  root_here = not-true _ (and_right _ _ r.left)

  -- the root has no parent
  pub root_top : r.node.parent ≡ None
  root_top = grind arith

  -- the first node passes
  root_found : find is_root_left (nodes_with t keys) ≡ Some r.node
  root_found = ap (find is_root_left) nodes_are ∙ rw r.left refl

  -- it is lost for want of a strong node where no strong handle is open, if no node is deserted
  pub root_decided : (buffers : Option Buffers) (strong_open : Bool) → find (is_deserted_node (nodes_with t keys)) (nodes_with t keys)
      ≡ None → has_strong (nodes_with t keys) ≡ false → strong_open ≡ false →
      decided (nodes_with t keys) buffers strong_open ≡ Some (Loses r.node.key Cause.NoStrong)
  root_decided buffers strong_open no_end weak shut = grind (arith, root_found)
