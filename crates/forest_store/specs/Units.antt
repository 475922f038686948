-- The units of a collection. No public clause of `alloc_event` cites this module.
use Rattle.std.specs.Prelude.{◌≡◌, Bool, true, false, ◌||◌, ◌&&◌, not, List, [], ◌∷◌, is_none}
use Rattle.std.specs.List.{list_all}
use Rattle.std.specs.Option.{option_map_or}
use Rattle.sm_names.specs.Elements.{In}
use Rattle.sm_names.specs.Sameness.{same_key}
use Rattle.forest_store.specs.declared.node.Node.{Node}
use Rattle.forest_store.specs.Nodes.{is_of}

-- the node heads a unit: it is a root, or attached
abbrev pub is_head : Node → Bool
is_head n = is_none n.parent || n.attached

-- the other is the node's parent
abbrev pub is_parent : Node → Node → Bool
is_parent n other = option_map_or (λ p. is_of p other) n.parent false

-- unless it heads a unit the node is of the other's, if that is its parent
abbrev pub shares_unit : Node → Node → Bool
shares_unit n other = is_head n || (not (is_parent n other) || same_key other.head n.head)

-- so does each with those behind it; the newest stands first
abbrev pub are_united : List Node → Bool
are_united [] = true
are_united (n ∷ older) = list_all (shares_unit n) older && are_united older

-- the nodes of a unit whose head is not gone have their buffers with it, and until then none of them is gone
pub record GoTogether (nodes : List Node) : Type 0 where
  pub alike : (n h : Node) → In n nodes → In h nodes → n.head ≡ h.key → h.head ≡ h.key → h.gone ≡ false → n.allocated ≡ h.allocated
  pub spared : (n h : Node) → In n nodes → In h nodes → n.head ≡ h.key → h.head ≡ h.key → h.gone ≡ false → h.allocated ≡ false →
      n.gone ≡ false
