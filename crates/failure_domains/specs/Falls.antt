-- How a failure propagates through the nodes of a table: up over the links that do not block, and down to every child.
-- The nodes that it takes are the least set `Reach` of sm_names, over the table's links and `blocked_at`.
use Rattle.std.specs.Prelude.{◌≡◌, ℕ, zero, suc, Bool, false, ◌&&◌, not, List, [], ◌∷◌, Option, Some, None, if◌then◌else◌}
use Rattle.std.specs.List.{flat_map}
use Rattle.std.specs.Option.{option_map_or}
use Rattle.sm_names.specs.declared.keys.NodeKey.{NodeKey}
use Rattle.sm_names.specs.Sameness.{same_key}
use Rattle.node_table.specs.Table.{Table, node_at, parent_at, children_at}
use Rattle.node_table.specs.Forest.{depth_at}

module _ {N : Type 0} (blocks : N → Bool) (t : Table N) where
  -- the node is there and blocks its link to its parent
  abbrev pub blocked_at : NodeKey → Bool
  blocked_at key = option_map_or blocks (node_at t key) false

  -- the parent that a failure of the node propagates to, if any
  abbrev pub way_up : NodeKey → Option NodeKey
  way_up key = if blocked_at key then None else parent_at t key

  -- how many links a failure of the node climbs, at most this many
  abbrev pub links_within : ℕ → NodeKey → ℕ
  links_within zero key = 0
  links_within (suc most) key = option_map_or (λ above. suc (links_within most above)) (way_up key) 0

  -- how many links a failure of the origin climbs: at most its depth
  abbrev pub links_climbed : NodeKey → ℕ
  links_climbed origin = links_within (depth_at t origin) origin

module _ {N : Type 0} (stops : N → Bool) (t : Table N) (top : NodeKey) where
  -- the key is not the top, and its node stops a walk down from there
  abbrev pub stopped_at : NodeKey → Bool
  stopped_at key = not (same_key key top) && option_map_or stops (node_at t key) false

  -- the children that such a walk visits from the key
  abbrev pub children_within : NodeKey → List NodeKey
  children_within key = if stopped_at key then [] else children_at t key

-- what lies at or below the top within a bound: the top, and each child of what does and is not stopped at
pub data Within (parent : NodeKey → Option NodeKey) (stopped : NodeKey → Bool) (top : NodeKey) : NodeKey → Type 0 where
  Top : Within parent stopped top top
  Below : (above child : NodeKey) → Within parent stopped top above → stopped above ≡ false → parent child ≡ Some above →
      Within parent stopped top child

-- the first key, then the children of each key in turn: layer by layer
abbrev pub IsByLayers : (NodeKey → List NodeKey) → List NodeKey → Type 0
IsByLayers children [] = ⊥
IsByLayers children (top ∷ below) = below ≡ flat_map children (top ∷ below)
