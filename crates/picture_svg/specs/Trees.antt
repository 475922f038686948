-- A tree as a vector graphic: its links, its boxes, and its buffers below them.
use Rattle.std.specs.Prelude.{ℕ, ◌+◌, max, Bool, true, false, if◌then◌else◌, List, [], ◌∷◌, ◌++◌, codes, Option, Some, None, Vec}
use Rattle.std.specs.declared.alloc.Global.{Global}
use Rattle.std.specs.List.{flat_map}
use Rattle.sm_names.specs.Demands.{Demand}
use Rattle.forest_store.specs.declared.node.Node.{Node}
use Rattle.core_state.specs.State.{State}
use Rattle.script_labels.specs.Names.{Names}
use Rattle.event_texts.specs.FactTexts.{concat}
use Rattle.picture_model.specs.declared.features.Class.{Class}
use Rattle.picture_model.specs.declared.picture.Tree.{Tree}
use Rattle.picture_model.specs.declared.failure_view.Travel.{Travel}
use Rattle.picture_model.specs.BoxLines.{asked_words, kind_words, node_words, state_words}
use Rattle.picture_model.specs.Colors.{edge_text, fill_text, ink_text}
use Rattle.picture_model.specs.Features.{class_of, place_text}
use Rattle.picture_layout.specs.declared.layout.Corner.{Corner}
use Rattle.picture_layout.specs.declared.layout.TheConstants.{BOX_HEIGHT}
use Rattle.picture_layout.specs.declared.layout.NodeBox.{NodeBox}
use Rattle.picture_layout.specs.Lengths.{capped_sum}
use Rattle.picture_layout.specs.Layouts.{boxes_of, lowest_of, rightmost_of}
use Rattle.picture_svg.specs.declared.elements.TheConstants.{MARGIN}
use Rattle.picture_svg.specs.Bars.{bars_bottom, bars_right, bars_text, shown_of}
use Rattle.picture_svg.specs.Elements.{Paint, look, rect_text, words_text}
use Rattle.picture_svg.specs.Links.{box_link}

-- ---- boxes

-- the dashes of a box's border
abbrev pub dashes_text : Class → List ℕ
dashes_text Class.Live = []
dashes_text Class.Orphan = codes "5 3"
dashes_text Class.Origin = []
dashes_text Class.Taken = []
dashes_text Class.Ended = codes "2 3"

-- its border is thick if the node left at the event
abbrev pub border_width : Bool → List ℕ
border_width left = if left then codes "3.5" else codes "1.8"

-- how the box of a node looks, which left at the event, or not
abbrev pub box_paint : Bool → Node → Paint
box_paint left n = record {
  rounded = 6;
  fill = fill_text (class_of n);
  stroke = edge_text (class_of n);
  stroke_width = border_width left;
  dashes = dashes_text (class_of n);
}

-- what it asks for, if it does
abbrev pub asked_lines : Option Demand → List (List ℕ)
asked_lines None = []
asked_lines (Some asked) = asked_words asked ∷ []

-- the lines below its name: its state, what it is, what it asks for, and where its end is
abbrev pub node_lines : Names → Node → List (List ℕ)
node_lines names n = state_words names n ∷ kind_words names n ∷ asked_lines n.constraints ++ place_text names n.end ∷ []

-- a line as its text
abbrev pub line_items : Vec ℕ Global → List ℕ
line_items line = line.items

-- lines in a box, from this row on
abbrev pub svg_lines : ℕ → ℕ → List ℕ → List (List ℕ) → List ℕ
svg_lines x y fill [] = []
svg_lines x y fill (line ∷ lines) = words_text x y (look 12 false fill false) line ++ svg_lines x (capped_sum y 16) fill lines

-- the name of a node, and the lines below it, in a box with this corner
abbrev pub svg_name : Names → Corner → Node → List ℕ
svg_name names c n =
    words_text (capped_sum c.x 10) (capped_sum c.y 20) (look 15 true (ink_text (class_of n)) false) (node_words names n)

-- the words below the name in a node's box
abbrev pub svg_words_below : Names → Corner → Node → List ℕ
svg_words_below names c n =
    svg_lines (capped_sum c.x 10) (capped_sum c.y 38) (ink_text (class_of n)) (node_lines names n)

-- the words in a node's box
unfoldable pub svg_box_words : Names → Corner → Node → List ℕ
svg_box_words names c n = concat (svg_name names c n ∷ svg_words_below names c n ∷ [])

-- the box of a node, so wide, with its words
unfoldable pub svg_box : Names → ℕ → NodeBox → List ℕ
svg_box names width s =
    concat (rect_text s.corner.x s.corner.y width BOX_HEIGHT (box_paint s.left s.node) ∷ svg_box_words names s.corner s.node ∷ [])

-- ---- trees

-- where the boxes of a tree are, from this row on
abbrev pub tree_boxes : ℕ → ℕ → Tree → List NodeBox
tree_boxes width y tree = boxes_of (record { x = MARGIN; y = y }) width tree.left.items tree.nodes.items

-- the row of its buffers
abbrev pub bars_row : ℕ → ℕ → Tree → ℕ
bars_row width y tree = capped_sum (lowest_of y (tree_boxes width y tree)) (BOX_HEIGHT + 30)

-- its links and its boxes
abbrev pub svg_nodes : Names → List Travel → ℕ → ℕ → Tree → List ℕ
svg_nodes names travels width y tree = concat (
    flat_map (box_link travels width) (tree_boxes width y tree)
    ∷ flat_map (svg_box names width) (tree_boxes width y tree)
    ∷ []
    )

-- the last column of its boxes, or this one
abbrev pub nodes_right : ℕ → ℕ → ℕ → Tree → ℕ
nodes_right width y right tree = max right (rightmost_of width (tree_boxes width y tree))

-- a tree from this row on: its links, its boxes, and its buffers
unfoldable pub svg_tree : State → Names → List ℕ → List Travel → ℕ → ℕ → Tree → List ℕ
svg_tree s names clients travels width y tree = concat (
    svg_nodes names travels width y tree
    ∷ bars_text width (bars_row width y tree) (shown_of s names clients tree)
    ∷ []
    )

-- the first row below it, and its last column, or this one
unfoldable pub tree_bottom : State → Names → List ℕ → ℕ → ℕ → Tree → ℕ
tree_bottom s names clients width y tree =
    capped_sum (bars_bottom (bars_row width y tree) (shown_of s names clients tree)) 26

-- the last column of a tree with its buffers
unfoldable pub tree_right : State → Names → List ℕ → ℕ → ℕ → ℕ → Tree → ℕ
tree_right s names clients width y right tree =
    bars_right width (nodes_right width y right tree) (shown_of s names clients tree)

-- the trees from this row on, one below the other
abbrev pub svg_trees : State → Names → List ℕ → List Travel → ℕ → ℕ → List Tree → List ℕ
svg_trees s names clients travels width y [] = []
svg_trees s names clients travels width y (t ∷ ts) =
    svg_tree s names clients travels width y t
    ++ svg_trees s names clients travels width (tree_bottom s names clients width y t) ts

-- where the next thing stands below the trees
abbrev pub trees_bottom : State → Names → List ℕ → ℕ → ℕ → List Tree → ℕ
trees_bottom s names clients width y [] = y
trees_bottom s names clients width y (t ∷ ts) = trees_bottom s names clients width (tree_bottom s names clients width y t) ts

-- the right end of the trees
abbrev pub trees_right : State → Names → List ℕ → ℕ → ℕ → ℕ → List Tree → ℕ
trees_right s names clients width y right [] = right
trees_right s names clients width y right (t ∷ ts) =
    trees_right s names clients width (tree_bottom s names clients width y t) (tree_right s names clients width y right t) ts
