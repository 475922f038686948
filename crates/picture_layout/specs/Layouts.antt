-- Where the boxes of a tree are drawn: a column for each leaf, and a parent over the middle of its children.
use Rattle.std.specs.Prelude.{ℕ, zero, suc, ◌≡◌, ◌+◌, ◌-◌, ◌/◌, max, nat_lt, if◌then◌else◌}
use Rattle.std.specs.Prelude.{List, [], ◌∷◌, ◌++◌, length, map, replicate, set, Option, Some, None}
use Rattle.std.specs.List.{fold, list_any, range_with_len, slice_get}
use Rattle.std.specs.Option.{option_and_then, option_map, option_map_or}
use Rattle.sm_names.specs.declared.keys.NodeKey.{NodeKey}
use Rattle.sm_names.specs.Sameness.{same_key}
use Rattle.forest_store.specs.declared.node.Node.{Node}
use Rattle.forest_store.specs.Nodes.{is_of}
use Rattle.event_facts.specs.declared.key_maps.KeyMap.{KeyMap}
use Rattle.event_facts.specs.KeyMaps.{value_at}
use Rattle.picture_layout.specs.declared.layout.Corner.{Corner}
use Rattle.picture_layout.specs.declared.layout.TheConstants.{BOX_HEIGHT, COLUMN_GAP, ROW_GAP}
use Rattle.picture_layout.specs.declared.layout.NodeBox.{NodeBox}
use Rattle.picture_layout.specs.Lengths.{capped_product, capped_sum}

-- ---- places

-- the first place from this one on of a node with the key
abbrev pub place_from : NodeKey → ℕ → List Node → Option ℕ
place_from key at [] = None
place_from key at (n ∷ ns) = if is_of key n then Some at else place_from key (at + 1) ns

-- each of these nodes is found at its place by its key
abbrev pub FindsPlaces : KeyMap ℕ → List Node → Type 0
FindsPlaces places nodes = (key : NodeKey) → value_at places key ≡ place_from key 0 nodes

-- the place of the node's parent, if it is among these
abbrev pub place_above : List Node → Node → Option ℕ
place_above nodes n = option_and_then (λ key. place_from key 0 nodes) n.parent

-- for each node the place of its parent in the list, if it has one
abbrev pub places_above : List Node → List (Option ℕ)
places_above nodes = map (place_above nodes) nodes

-- the number at this place, or 0
abbrev pub number_at : List ℕ → ℕ → ℕ
number_at numbers at = option_map_or (λ n. n) (slice_get numbers at) 0

-- the numbers with this one at this place, if there is such a place
abbrev pub with_number : List ℕ → ℕ → ℕ → List ℕ
with_number numbers at n = if nat_lt at (length numbers) then set numbers at n else numbers

-- the place that is there at this one
abbrev pub parent_place : List (Option ℕ) → ℕ → Option ℕ
parent_place parents at = option_map_or (λ p. p) (slice_get parents at) None

-- ---- columns

-- one more column or some more for the parent
abbrev pub more_above : ℕ → List ℕ → Option ℕ → List ℕ
more_above own widths None = widths
more_above own widths (Some parent) = with_number widths parent (capped_sum (number_at widths parent) own)

-- how many columns each node takes, where this one comes next: one, or those of its children
abbrev pub own_width : List ℕ → ℕ → ℕ
own_width widths at = max (number_at widths at) 1

-- the widths once the node at this place has its own, and its parent has at least that of its children
unfoldable pub widened : List (Option ℕ) → ℕ → List ℕ → List ℕ
widened parents at widths = more_above (own_width widths at) (with_number widths at (own_width widths at)) (parent_place parents at)

-- the same of this many nodes, the last first
abbrev pub widened_all : ℕ → List (Option ℕ) → List ℕ → List ℕ
widened_all zero parents widths = widths
widened_all (suc n) parents widths = widened_all n parents (widened parents n widths)

-- how many columns each node takes
unfoldable pub widths_of : List (Option ℕ) → List ℕ
widths_of parents = widened_all (length parents) parents (replicate (length parents) 0)

-- how many generations a node is below the root
abbrev pub depth_below : List ℕ → Option ℕ → ℕ
depth_below depths None = 0
depth_below depths (Some parent) = capped_sum (number_at depths parent) 1

-- how many generations each node is below the root
unfoldable pub depths_of : List (Option ℕ) → List ℕ
depths_of parents = fold (λ depths parent. depths ++ depth_below depths parent ∷ []) [] parents

-- the first column of a node: the first that is free in its parent's room
abbrev pub column_of : List ℕ → Option ℕ → ℕ
column_of free None = 0
column_of free (Some parent) = number_at free parent

-- the free columns, once a child of this width stands in the parent's room
abbrev pub less_above : ℕ → List ℕ → Option ℕ → List ℕ
less_above width free None = free
less_above width free (Some parent) = with_number free parent (capped_sum (number_at free parent) width)

-- the free columns once a node of this width stands in its parent's room
unfoldable pub taken_columns : List (Option ℕ) → List ℕ → ℕ → List ℕ → List ℕ
taken_columns parents widths at free =
    with_number (less_above (number_at widths at) free (parent_place parents at)) at (column_of free (parent_place parents at))

-- the first column of each of this many nodes, from this place on
abbrev pub columns_from : List (Option ℕ) → List ℕ → ℕ → ℕ → List ℕ → List ℕ
columns_from parents widths zero at free = []
columns_from parents widths (suc n) at free =
    column_of free (parent_place parents at) ∷ columns_from parents widths n (at + 1) (taken_columns parents widths at free)

-- the first column of each node
unfoldable pub columns_of : List (Option ℕ) → List ℕ → List ℕ
columns_of parents widths = columns_from parents widths (length parents) 0 (replicate (length parents) 0)

-- ---- boxes

-- the corner of a box that spans `width` columns of this pitch, from this column on, in this generation
abbrev pub corner_of : Corner → ℕ → ℕ → ℕ → ℕ → Corner
corner_of start pitch width column depth = record {
  x = capped_sum (capped_sum start.x (capped_product column pitch)) (capped_product (width - 1) pitch / 2);
  y = capped_sum start.y (capped_product depth (BOX_HEIGHT + ROW_GAP));
}

-- the corner of the box at this place
abbrev pub corner_at : Corner → ℕ → List ℕ → List ℕ → List ℕ → ℕ → Corner
corner_at start pitch widths columns depths at =
    corner_of start pitch (number_at widths at) (number_at columns at) (number_at depths at)

-- the corners of the boxes, from this corner on, where a box has this width
unfoldable pub corners_of : List (Option ℕ) → Corner → ℕ → List Corner
corners_of parents start width =
    let widths = widths_of parents in
    map (corner_at start (capped_sum width COLUMN_GAP) widths (columns_of parents widths) (depths_of parents)) (range_with_len 0
    (length parents))

-- one of these corners, or that where they begin
abbrev pub corner_or : Corner → List Corner → ℕ → Corner
corner_or start corners at = option_map_or (λ c. c) (slice_get corners at) start

-- a node of those that left at the event, or not, with its corner, and that of its parent
abbrev pub box_of : Corner → List (Option ℕ) → List Corner → List NodeKey → ℕ → Node → NodeBox
box_of start parents corners left at n = record {
  node = n;
  corner = corner_or start corners at;
  above = option_map (corner_or start corners) (parent_place parents at);
  left = list_any (same_key n.key) left;
}

-- the nodes from this place on, with their corners
abbrev pub boxes_from : Corner → List (Option ℕ) → List Corner → List NodeKey → ℕ → List Node → List NodeBox
boxes_from start parents corners left at [] = []
boxes_from start parents corners left at (n ∷ ns) =
    box_of start parents corners left at n ∷ boxes_from start parents corners left (at + 1) ns

-- all of them
unfoldable pub boxes_of : Corner → ℕ → List NodeKey → List Node → List NodeBox
boxes_of start width left nodes =
    let parents = places_above nodes in boxes_from start parents (corners_of parents start width) left 0 nodes

-- the row of the lowest box, and the last column
unfoldable pub lowest_of : ℕ → List NodeBox → ℕ
lowest_of start boxes = fold (λ y s. max y s.corner.y) start boxes

-- the last column of all boxes
unfoldable pub rightmost_of : ℕ → List NodeBox → ℕ
rightmost_of width boxes = fold (λ x s. max x (capped_sum s.corner.x width)) 0 boxes
