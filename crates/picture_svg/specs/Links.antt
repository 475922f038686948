-- The links of a tree as a vector graphic.
use Rattle.std.specs.Prelude.{ℕ, ◌-◌, ◌/◌, if◌then◌else◌, List, [], ◌∷◌, codes, decimal, Option, Some, None}
use Rattle.std.specs.Option.{option_map_or}
use Rattle.forest_store.specs.declared.node.Node.{Node}
use Rattle.event_texts.specs.FactTexts.{concat}
use Rattle.picture_model.specs.declared.features.LinkStyle.{LinkStyle}
use Rattle.picture_model.specs.declared.failure_view.Travel.{Travel}
use Rattle.picture_model.specs.declared.failure_view.TravelWay.{TravelWay}
use Rattle.picture_model.specs.Features.{link_of}
use Rattle.picture_model.specs.Travels.{way_in}
use Rattle.picture_layout.specs.declared.layout.Corner.{Corner}
use Rattle.picture_layout.specs.declared.layout.TheConstants.{BOX_HEIGHT, ROW_GAP}
use Rattle.picture_layout.specs.declared.layout.NodeBox.{NodeBox}
use Rattle.picture_layout.specs.Lengths.{capped_sum}
use Rattle.picture_svg.specs.Elements.{attribute, circle_text}

-- ---- paths

-- a path from a corner down or up to a row, along it, and on to its end
unfoldable pub path_text : ℕ → ℕ → ℕ → ℕ → ℕ → List ℕ
path_text a b middle x y = concat (
    codes "<path d=\"M"
    ∷ decimal a
    ∷ codes " "
    ∷ decimal b
    ∷ codes " V"
    ∷ decimal middle
    ∷ codes " H"
    ∷ decimal x
    ∷ codes " V"
    ∷ decimal y
    ∷ []
    )

-- the row of the horizontal part of a link that ends in this row
abbrev pub middle_row : ℕ → ℕ
middle_row y = y - ROW_GAP / 2

-- the path between two ends: upwards to the right of the parent's middle, downwards to its left, each with room for an arrow
unfoldable pub way_path : Corner → Corner → Option TravelWay → List ℕ
way_path from to None = path_text from.x from.y (middle_row to.y) to.x to.y
way_path from to (Some (TravelWay.Up step)) =
    path_text to.x to.y (middle_row to.y) (capped_sum from.x 12) (capped_sum from.y 9)
way_path from to (Some (TravelWay.Down step)) =
    path_text (from.x - 12) from.y (middle_row to.y - 12) to.x (to.y - 9)
way_path from to (Some TravelWay.Stop) = path_text from.x from.y (middle_row to.y) to.x to.y

-- ---- how a link looks

-- its colour, its width and its dashes
abbrev pub line_color : Option TravelWay → List ℕ
line_color (Some (TravelWay.Up step)) = codes "#D55E00"
line_color (Some (TravelWay.Down step)) = codes "#D55E00"
line_color (Some TravelWay.Stop) = codes "#808080"
line_color None = codes "#808080"

-- the width of a link: wide where a failure climbed it
abbrev pub line_width : Option TravelWay → List ℕ
line_width (Some (TravelWay.Up step)) = codes "4"
line_width (Some (TravelWay.Down step)) = codes "2"
line_width (Some TravelWay.Stop) = codes "1.5"
line_width None = codes "1.5"

-- the dashes of a link: none, or those that the legend names
abbrev pub line_dashes : LinkStyle → List ℕ
line_dashes LinkStyle.Normal = []
line_dashes LinkStyle.Attached = codes "7 5"
line_dashes LinkStyle.Dispensable = codes "2 4"

-- the start of a link: its color and its width
unfoldable pub line_start : Option TravelWay → List ℕ
line_start way = concat
    (codes "\" fill=\"none\" stroke=\"" ∷ line_color way ∷ codes "\" stroke-width=\"" ∷ line_width way ∷ codes "\"" ∷ [])

-- the attributes of a link's line
unfoldable pub svg_line : LinkStyle → Option TravelWay → List ℕ
svg_line link way = concat (line_start way ∷ attribute (codes "stroke-dasharray") (line_dashes link) ∷ [])

-- ---- its end

-- an arrow, and the number of the step at which a failure went along the link
unfoldable pub svg_arrow : Corner → ℕ → List ℕ
svg_arrow to step =
    let row = capped_sum (middle_row to.y) 13 in
    concat (codes " marker-end=\"url(#a)\"/>\n" ∷ circle_text to.x row (capped_sum row 4) step ∷ [])

-- the bar where a failure stopped
unfoldable pub svg_stop : ℕ → ℕ → ℕ → ℕ → ℕ → List ℕ
svg_stop left row right x y = concat (
    codes "<path d=\"M"
    ∷ decimal left
    ∷ codes " "
    ∷ decimal row
    ∷ codes " H"
    ∷ decimal right
    ∷ codes "\" stroke=\""
    ∷ codes "#222222"
    ∷ codes "\" stroke-width=\"5\"/>\n<text x=\""
    ∷ decimal x
    ∷ codes "\" y=\""
    ∷ decimal y
    ∷ codes "\" font-size=\"12\" font-weight=\"bold\" fill=\""
    ∷ codes "#222222"
    ∷ codes "\">stops</text>\n"
    ∷ []
    )

-- the end of a link at which a failure stopped
unfoldable pub svg_stop_end : Corner → List ℕ
svg_stop_end to = concat
    (codes "/>\n" ∷ svg_stop (to.x - 16) (to.y - 10) (capped_sum to.x 16) (capped_sum to.x 22) (to.y - 6) ∷ [])

-- the end of a link: plain, with an arrow, or with a bar where the failure stopped
abbrev pub svg_end : Corner → Option TravelWay → List ℕ
svg_end to None = codes "/>\n"
svg_end to (Some (TravelWay.Up step)) = svg_arrow to step
svg_end to (Some (TravelWay.Down step)) = svg_arrow to step
svg_end to (Some TravelWay.Stop) = svg_stop_end to

-- ---- the link

-- the link of a node, from below its parent's box to above its own, along which failures went so
unfoldable pub svg_link : Node → Corner → Corner → Option TravelWay → List ℕ
svg_link n from to way = concat (way_path from to way ∷ svg_line (link_of n) way ∷ svg_end to way ∷ [])

-- the middle of the lower edge of a box of this width, and of its upper edge
abbrev pub foot_corner : ℕ → Corner → Corner
foot_corner width c = record { x = capped_sum c.x (width / 2); y = capped_sum c.y BOX_HEIGHT }

-- the middle of the upper side of a box at this corner
abbrev pub head_corner : ℕ → Corner → Corner
head_corner width c = record { x = capped_sum c.x (width / 2); y = c.y }

-- the link of the node to its parent, if it has one
unfoldable pub box_link : List Travel → ℕ → NodeBox → List ℕ
box_link travels width s = option_map_or
    (λ above. svg_link s.node (foot_corner width above) (head_corner width s.corner) (way_in travels s.node.key)) s.above []
