-- A picture as a vector graphic, as a function of a core, of what labels stand for, and of what is shown.
use Rattle.std.specs.Prelude.{ℕ, ◌+◌, ◌*◌, ◌/◌, ◌-◌, ◌==◌, min, max, nat_lt, true}
use Rattle.std.specs.Prelude.{false, if◌then◌else◌, List, [], ◌∷◌, ◌++◌, codes, decimal, drop, length, map}
use Rattle.std.specs.List.{flat_map, fold}
use Rattle.sm_names.specs.declared.keys.HeldBuffer.{HeldBuffer}
use Rattle.sm_names.specs.declared.keys.NodeKey.{NodeKey}
use Rattle.sm_names.specs.declared.tracking.Fired.{Fired}
use Rattle.forest_store.specs.declared.node.Node.{Node}
use Rattle.forest_store.specs.Forest.{held_by_page}
use Rattle.core_state.specs.Reads.{views_of}
use Rattle.core_state.specs.State.{Client, State}
use Rattle.script_lines.specs.Labels.{label_text}
use Rattle.script_labels.specs.Names.{Names, label_of_node}
use Rattle.event_texts.specs.FactTexts.{buffer_name, concat}
use Rattle.picture_model.specs.declared.picture.Picture.{Picture}
use Rattle.picture_model.specs.declared.picture.ToldMark.{ToldMark}
use Rattle.picture_model.specs.declared.picture.Tree.{Tree}
use Rattle.picture_model.specs.BoxLines.{fired_words, header_text}
use Rattle.picture_model.specs.Features.{free_words}
use Rattle.picture_layout.specs.Lengths.{capped_product, capped_sum}
use Rattle.picture_svg.specs.declared.elements.TheConstants.{MARGIN}
use Rattle.picture_svg.specs.Elements.{Look, Paint, look, rect_text, words_text}
use Rattle.picture_svg.specs.Legend.{legend_text}
use Rattle.picture_svg.specs.Trees.{node_lines, trees_bottom, trees_right, svg_trees}

-- ---- the width of a box

-- the widest of these lines, and what the lines of a node's box need, in tenths
abbrev pub longest_of : List (List ℕ) → ℕ
longest_of lines = fold (λ most line. max most (length line)) 0 lines

-- the width that a node's name takes, in tenths of a pixel
abbrev pub name_tenths : Names → NodeKey → ℕ
name_tenths names node = capped_sum 240 (capped_product 90 (capped_sum (length (label_text (label_of_node names node))) 2))

-- the width that the words below the name take, in tenths
abbrev pub lines_tenths : Names → Node → ℕ
lines_tenths names n = capped_sum 240 (capped_product 73 (longest_of (node_lines names n)))

-- the greater of the width so far and that of this node
abbrev pub node_tenths : Names → ℕ → Node → ℕ
node_tenths names tenths n = max (max tenths (name_tenths names n.key)) (lines_tenths names n)

-- the greater of the width so far and those of the tree's nodes
abbrev pub tree_tenths : Names → ℕ → Tree → ℕ
tree_tenths names tenths tree = fold (node_tenths names) tenths tree.nodes.items

-- the width that a box needs: an even number, for the longest line of all boxes
unfoldable pub box_width : Names → List Tree → ℕ
box_width names trees = capped_sum (fold (tree_tenths names) 2000 trees) 10 / 10 / 2 * 2

-- ---- above the trees

-- the number of the event and its line
unfoldable pub title_text : ℕ → List ℕ → List ℕ
title_text event line = words_text MARGIN (MARGIN + 14) (look 18 true (codes "#222222") false) (header_text event line)

-- a line of words above this row
unfoldable pub fact_text : ℕ → Look → List ℕ → List ℕ
fact_text y l words = words_text MARGIN (y - 12) l words

-- the marks of the event, from this row on
abbrev pub mark_look : ToldMark → Look
mark_look m = look 13 false (if m.fails then codes "#A84300" else codes "#222222") false

-- the first lines of the marks, one below the other
abbrev pub svg_marks : ℕ → List ToldMark → List ℕ
svg_marks y [] = []
svg_marks y (m ∷ ms) = fact_text y (mark_look m) m.line.items ++ svg_marks (capped_sum y 18) ms

-- where the next line stands below those of the marks
abbrev pub marks_bottom : ℕ → List ToldMark → ℕ
marks_bottom y [] = y
marks_bottom y (m ∷ ms) = marks_bottom (capped_sum y 18) ms

-- the trackers that fired, from this row on
abbrev pub svg_fires : Names → ℕ → List Fired → List ℕ
svg_fires names y [] = []
svg_fires names y (f ∷ fs) =
    fact_text y (look 13 false (codes "#222222") false) (fired_words names f) ++ svg_fires names (capped_sum y 18) fs

-- where the next line stands below those of the firings
abbrev pub fires_bottom : ℕ → List Fired → ℕ
fires_bottom y [] = y
fires_bottom y (f ∷ fs) = fires_bottom (capped_sum y 18) fs

-- ---- the pool

-- the width of a page, where the pool has this many
abbrev pub page_width : ℕ → ℕ
page_width pages = if pages == 0 then 2 else max (min (800 / pages) 24) 2

-- how an interval of the pool is painted
abbrev pub cell_paint : List ℕ → List ℕ → Paint
cell_paint fill stroke = record { rounded = 0; fill = fill; stroke = stroke; stroke_width = []; dashes = [] }

-- the name of a buffer in its pages, which are so wide, where there is room
unfoldable pub cell_name : Names → ℕ → ℕ → ℕ → HeldBuffer → List ℕ
cell_name names x y width held =
    let name = words_text (capped_sum x (width / 2)) (capped_sum y 14) (look 10 false (codes "#222222") true) (buffer_name names held.buffer) in
    if nat_lt width 44 then [] else name

-- the pages of a buffer, and its name, where a page has this width
unfoldable pub held_cell : Names → ℕ → ℕ → HeldBuffer → List ℕ
held_cell names cell y held =
    let x = capped_sum (MARGIN + 48) (capped_product cell held.pages.start) in
    let width = capped_product cell held.pages.pages in
    concat (rect_text x y width 20 (cell_paint (codes "#FAF2CC") (codes "#7A6A00")) ∷ cell_name names x y width held ∷ [])

-- this many pages in this row, and which buffers hold them
unfoldable pub svg_held : Names → ℕ → List HeldBuffer → ℕ → List ℕ
svg_held names y held pages = concat (
    words_text MARGIN (capped_sum y 14) (look 12 true (codes "#222222") false) (codes "pool")
    ∷ rect_text (MARGIN + 48) y (capped_product (page_width pages) pages) 20 (cell_paint (codes "#FFFFFF") (codes "#808080"))
    ∷ flat_map (held_cell names (page_width pages) y) held
    ∷ []
    )

-- how many pages are free, behind the pool
unfoldable pub svg_free : ℕ → ℕ → ℕ → List ℕ
svg_free y free pages = words_text (capped_sum (MARGIN + 60) (capped_product (page_width pages) pages)) (capped_sum y 14)
    (look 12 false (codes "#222222") false) (free_words free pages)

-- the pool in this row
unfoldable pub svg_pool : Names → ℕ → List HeldBuffer → ℕ → ℕ → List ℕ
svg_pool names y held free pages = concat (svg_held names y held pages ∷ svg_free y free pages ∷ [])

-- ---- the whole

-- the begin of a picture of this size
unfoldable pub frame_text : ℕ → ℕ → List ℕ
frame_text width height = concat (
    codes "<svg xmlns=\"http://www.w3.org/2000/svg\" width=\""
    ∷ decimal width
    ∷ codes "\" height=\""
    ∷ decimal height
    ∷ codes "\" viewBox=\"0 0 "
    ∷ decimal width
    ∷ codes " "
    ∷ decimal height
    ∷ codes "\" font-family=\"DejaVu Sans Mono, monospace\">\n<defs><marker id=\"a\" markerUnits=\"userSpaceOnUse\" markerWidth=\"14\" markerHeight=\"14\" refX=\"5\" refY=\"7\" orient=\"auto\"><path d=\"M0 0 L12 7 L0 14 Z\" fill=\""
    ∷ codes "#D55E00"
    ∷ codes "\"/></marker></defs>\n<rect width=\"100%\" height=\"100%\" fill=\"#FFFFFF\"/>\n"
    ∷ []
    )

-- the clients, and the trackers that fired at the event
abbrev pub clients_of : State → List ℕ
clients_of s = map (λ (c : Client). c.id) s.clients

-- the trackers that fired at the event of the picture
abbrev pub fired_then : State → Picture → List Fired
fired_then s picture = drop picture.fired s.trackers.fired

-- the row of the first tree
unfoldable pub trees_row : State → Picture → ℕ
trees_row s picture = capped_sum (fires_bottom (marks_bottom (MARGIN + 50) picture.told.items) (fired_then s picture)) 8

-- what the event did, below the title
unfoldable pub svg_told : State → Names → Picture → List ℕ
svg_told s names picture = concat (
    svg_marks (MARGIN + 50) picture.told.items
    ∷ svg_fires names (marks_bottom (MARGIN + 50) picture.told.items) (fired_then s picture)
    ∷ []
    )

-- the trees
unfoldable pub all_trees : State → Names → Picture → List ℕ
all_trees s names picture = svg_trees s names (clients_of s) picture.travels.items
    (box_width names picture.trees.items) (trees_row s picture) picture.trees.items

-- the row of the pool, that of the legend, and the height of the picture
unfoldable pub pool_row : State → Names → Picture → ℕ
pool_row s names picture =
    trees_bottom s names (clients_of s) (box_width names picture.trees.items) (trees_row s picture) picture.trees.items

-- where the legend begins, from the top
abbrev pub legend_row : State → Names → Picture → ℕ
legend_row s names picture = capped_sum (pool_row s names picture) 44

-- the height of the picture
abbrev pub height_of : State → Names → Picture → ℕ
height_of s names picture = capped_sum (legend_row s names picture) (36 + MARGIN)

-- the last column of the trees, and the width of the picture
unfoldable pub last_column : State → Names → Picture → ℕ
last_column s names picture =
    trees_right s names (clients_of s) (box_width names picture.trees.items) (trees_row s picture) 0 picture.trees.items

-- the right end of all: of the trees, of the pool or of the legend
abbrev pub right_of : ℕ → ℕ → ℕ
right_of pages right = max (max right (capped_sum (MARGIN + 60 + 170) (capped_product (page_width pages) pages))) (MARGIN + 558 + 150)

-- the width of the picture
abbrev pub width_of : State → Names → Picture → ℕ
width_of s names picture = capped_sum (right_of s.pool (last_column s names picture)) MARGIN

-- what stands in the frame
unfoldable pub body_text : State → Names → List ℕ → Picture → List ℕ
body_text s names line picture = concat (
    title_text s.events line
    ∷ svg_told s names picture
    ∷ all_trees s names picture
    ∷ svg_pool names (pool_row s names picture) (held_by_page s.forest) (views_of s).free s.pool
    ∷ legend_text (legend_row s names picture)
    ∷ []
    )

-- these elements in a frame of this size
abbrev pub framed_text : ℕ → ℕ → List ℕ → List ℕ
framed_text width height body = concat (frame_text width height ∷ body ∷ codes "</svg>\n" ∷ [])

-- the picture behind the last event, of which this is the line
unfoldable pub svg_text : State → Names → List ℕ → Picture → List ℕ
svg_text s names line picture = framed_text (width_of s names picture) (height_of s names picture) (body_text s names line picture)
