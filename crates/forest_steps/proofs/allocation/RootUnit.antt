-- The unit of a root that is allocated, with those that follow: what is forced besides stays as it was, and no attached unit is next.
use Rattle.forest_steps.proofs.Common.{◌≡◌, refl, ap, sym, ◌∙◌, true, not, ◌&&◌, ◌||◌, inl, inr, is_none, is_some, drop}
use Rattle.forest_steps.proofs.Common.{List, [], ◌∷◌, Option, Some, None, list_all, list_any, find, option_and_then}
use Rattle.forest_steps.proofs.Common.{NodeKey, same_key, when, In, and_left, Node, waiting, Collection, is_ready_node}
use Rattle.forest_steps.proofs.Common.{is_root_left, given_all, IsSound, all-In, after_all, find_map}
use Rattle.std.specs.Option.{option_map}

-- only the first node may be a root
pub root_found : (ns : List Node) → list_all (λ (n : Node). is_some n.parent) (drop 1 ns) ≡ true → (r : Node) → In r ns →
    is_root_left r ≡ true → find is_root_left ns ≡ Some r
root_found [] one r on root = absurd on
root_found (n ∷ ns) one r (inl is) root =
    let here : is_root_left n ≡ true = ap is_root_left (sym is) ∙ root in
    rw here (ap Some (sym is))
root_found (n ∷ ns) one r (inr on) root = absurd (never r.parent (and_left _ _ root) (all-In _ ns r on one))
  where
    -- by cases on the parent
    never : (o : Option NodeKey) → is_none o ≡ true → is_some o ≡ true → ⊥
    never None a b = cc
    never (Some p) a b = cc

module _ {c : Collection} (sound : IsSound c) (hs : List NodeKey) where
  -- a node once the units with these heads have their buffers
  abbrev f : Node → Node
  f = given_all hs

  -- the collection's nodes once the units with these heads have their buffers
  abbrev after : List Node
  after = after_all hs c.nodes

  -- no root waits then, if its unit is one of them
  pub waits_none : (r : Node) → In r c.nodes → is_root_left r ≡ true → list_any (same_key r.head) hs ≡ true → waiting after ≡ None
  waits_none r on root own =
      let found : find is_root_left after ≡ Some (f r) =
      find_map is_root_left _ f c.nodes (λ n. refl) ∙ ap (option_map f) (root_found _ sound.one_root r on root) in
      ap (option_and_then (λ (x : Node). when (not x.allocated && list_all (is_ready_node x.key) after) x)) found
      ∙ (λ i. when (not (own i || r.allocated) && list_all (is_ready_node r.key) after) (f r))
