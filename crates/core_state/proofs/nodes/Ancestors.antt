-- The nodes above a node, read of births and of the nodes that are kept.
use Rattle.core_state.proofs.Common.{Birth, Bool, In, In-list_any, IsWhole, List, Node, NodeKey, None, Option, Some, Timeline, []}
use Rattle.core_state.proofs.Common.{above_among, ancestors, ap, births, births_in, both_ways, collection_in, either_way, eq-eqb, false}
use Rattle.core_state.proofs.Common.{false_if, filter, find_birth, gone, inl, inr, list_any, map, node_after, nodes_after, option_map}
use Rattle.core_state.proofs.Common.{option_map_or, or_left, or_right, refl, reverse, same_key, same_key-true, sym, true, ℕ, ◌&&◌, ◌==◌}
use Rattle.core_state.proofs.Common.{◌∙◌, ◌∷◌, ◌≡◌}
use Rattle.std.proofs.lemmas.List.{reverse-reverse}
use Rattle.sm_names.proofs.ChainLaws.{IsChain}
use Rattle.history_laws.proofs.ReachLaws.{parent_in, ancestors_chain}
use Rattle.history_laws.proofs.WholeLaws.{line_collection}
use Rattle.core_state.proofs.lists.Maps.{filter-map, filter-filter, filter-reverse, map-reverse}

-- ---- the line of a node

-- where all births on the node's line are kept, the kept ones tell the line
line_kept : (marks : Timeline) (kept : Birth → Bool) (bs : List Birth) (key : NodeKey) →
    ((b : Birth) → In b bs → list_any (same_key b.node) (key ∷ ancestors bs key) ≡ true → kept b ≡ true) →
    above_among (map (node_after marks) (filter kept bs)) key ≡ ancestors bs key
line_kept marks kept [] key whole = refl
line_kept marks kept (b ∷ older) key whole =
    elim (either_way (same_key b.node key)) [
      | inl e ↦
          let here : kept b ≡ true = whole b (inl refl) (or_left (same_key b.node key) _ e) in
          let line : (c : Birth) → In c older →
          list_any (same_key c.node) (key ∷ option_map_or (λ p. p ∷ ancestors older p) b.parent []) ≡ true → kept c ≡ true =
          λ c on h. whole c (inr on) (rw e h) in
          rw (here, e) (from b.parent line (λ p up. line_kept marks kept older p up))
      | inr e ↦
          let line : (c : Birth) → In c older → list_any (same_key c.node) (key ∷ ancestors older key) ≡ true → kept c ≡ true =
          λ c on h. whole c (inr on) (rw e h) in
          let on : above_among (map (node_after marks) (filter kept older)) key ≡ ancestors older key =
          line_kept marks kept older key line in
          elim (either_way (kept b)) [
            | inl k ↦ rw (k, e) on
            | inr k ↦ rw (k, e) on
          ]
    ]
  where
    -- by cases: a root has none above it, and a parent is kept since it is on the line
    from : (o : Option NodeKey) → ((c : Birth) → In c older →
        list_any (same_key c.node) (key ∷ option_map_or (λ p. p ∷ ancestors older p) o []) ≡ true → kept c ≡ true) →
        ((p : NodeKey) → ((c : Birth) → In c older → list_any (same_key c.node) (p ∷ ancestors older p) ≡ true → kept c ≡ true) →
        above_among (map (node_after marks) (filter kept older)) p ≡ ancestors older p) →
        option_map_or (λ p. p ∷ above_among (map (node_after marks) (filter kept older)) p) o [] ≡ option_map_or (λ p.
        p ∷ ancestors older p) o []
    from None line next = refl
    from (Some p) line next = ap (λ (l : List NodeKey). p ∷ l) (next p (λ c on h. line c on (or_right (same_key c.node key) _ h)))

-- no node up a chain from one that is not gone is gone
chain_left : (marks : Timeline) → IsWhole marks → (node : NodeKey) (above : List NodeKey) → IsChain (parent_in (births marks)) node above →
    gone marks node ≡ false →
    (k : NodeKey) → In k (node ∷ above) → gone marks k ≡ false
chain_left marks w node above chain here k (inl is) = ap (gone marks) is ∙ here
chain_left marks w node [] chain here k (inr on) = absurd on
chain_left marks w node (p ∷ above) chain here k (inr on) =
    let up : gone marks p ≡ false = false_if (gone marks p) (λ g. both_ways (gone marks node) (w.below node p chain.0 g) here) in
    chain_left marks w p above chain.1 up k on

-- nor is any node on its line
pub line_left : (marks : Timeline) → IsWhole marks → (node : NodeKey) → gone marks node ≡ false → (k : NodeKey) →
    In k (node ∷ ancestors (births marks) node) → gone marks k ≡ false
line_left marks w node here =
    chain_left marks w node (ancestors (births marks) node) (ancestors_chain (parent_in (births marks)) (births marks) (λ k _.
    refl) w.sound node refl) here

-- ---- the nodes that are kept

-- these keys are kept of the collection's nodes, and of those that are not gone all are
abbrev pub Keeps : (NodeKey → Bool) → Timeline → Type 0
Keeps keep marks = (node : NodeKey) → gone marks node ≡ false → keep node ≡ true

-- the births of the collection that are kept, in order
abbrev pub kept_in : (NodeKey → Bool) → Timeline → ℕ → List Birth
kept_in keep marks collection = filter (λ (b : Birth). keep b.node) (births_in marks collection)

-- its nodes that are kept
abbrev pub nodes_kept : (NodeKey → Bool) → Timeline → ℕ → List Node
nodes_kept keep marks collection = filter (λ (n : Node). keep n.key) (nodes_after marks collection)

-- they are those of the births that are kept
pub kept_births : (keep : NodeKey → Bool) (marks : Timeline) (collection : ℕ) →
    nodes_kept keep marks collection ≡ map (node_after marks) (kept_in keep marks collection)
kept_births keep marks collection = filter-map (λ (n : Node). keep n.key) (node_after marks) (births_in marks collection)

-- a birth of the collection that is kept
abbrev pub is_kept_of : (NodeKey → Bool) → ℕ → Birth → Bool
is_kept_of keep collection b = b.collection == collection && keep b.node

-- the newest first
kept_reverse : (keep : NodeKey → Bool) (marks : Timeline) (collection : ℕ) →
    reverse (nodes_kept keep marks collection) ≡ map (node_after marks) (filter (is_kept_of keep collection) (births marks))
kept_reverse keep marks collection =
    let ours : List Birth = filter (λ (b : Birth). b.collection == collection) (births marks) in
    let turned : kept_in keep marks collection ≡ reverse (filter (λ (b : Birth). keep b.node) ours) =
    filter-reverse (λ (b : Birth). keep b.node) ours in
    ap reverse (kept_births keep marks collection ∙ ap (map (node_after marks)) turned
    ∙ map-reverse (node_after marks) (filter (λ (b : Birth). keep b.node) ours))
    ∙ (reverse-reverse (map (node_after marks) (filter (λ (b : Birth). keep b.node) ours))
    ∙ ap (map (node_after marks)) (filter-filter (λ (b : Birth). keep b.node) (λ (b : Birth). b.collection == collection) (births marks)))

-- so above a node that is not gone they tell all
pub above_kept : (keep : NodeKey → Bool) (marks : Timeline) (collection : ℕ) → IsWhole marks → Keeps keep marks → (b : Birth) →
    In b (births marks) → b.collection ≡ collection → gone marks b.node ≡ false →
    above_among (reverse (nodes_kept keep marks collection)) b.node ≡ ancestors (births marks) b.node
above_kept keep marks collection w keeps b on ours here =
    ap (λ (ns : List Node). above_among ns b.node) (kept_reverse keep marks collection)
    ∙ line_kept marks (is_kept_of keep collection) (births marks) b.node kept
  where
    -- each birth on the line is not gone and of the collection, since the node below is
    kept : (c : Birth) → In c (births marks) → list_any (same_key c.node) (b.node ∷ ancestors (births marks) b.node) ≡ true →
        is_kept_of keep collection c ≡ true
    kept c there h =
        let a = In-list_any (same_key c.node) (b.node ∷ ancestors (births marks) b.node) h in
        let left : gone marks c.node ≡ false = ap (gone marks) (same_key-true c.node a.0 a.2) ∙ line_left marks w b.node here a.0 a.1 in
        let line : collection_in (births marks) b.node ≡ collection_in (births marks) c.node =
        line_collection (births marks) w.sound w.together c.node b.node h in
        let both : Some b.collection ≡ Some c.collection =
        sym (ap (option_map (λ (x : Birth). x.collection)) (find_birth (births marks) b w.sound on))
        ∙ (line ∙ ap (option_map (λ (x : Birth). x.collection)) (find_birth (births marks) c w.sound there)) in
        let same : b.collection ≡ c.collection = cc in
        rw (eq-eqb c.collection collection (sym same ∙ ours)) (keeps c.node left)
