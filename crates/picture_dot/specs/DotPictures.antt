-- The text of a picture in the language of Graphviz, as a function of a core, of what labels stand for, of the trees that are shown, and
-- of the links along which failures went.
use Rattle.std.specs.Prelude.{ℕ, ◌==◌, ◌/◌, if◌then◌else◌, Bool, not, ◌||◌, List, []}
use Rattle.std.specs.Prelude.{◌∷◌, codes, decimal, length, map, slice_get, Option, Some, None}
use Rattle.std.specs.List.{filter, flat_map, list_any}
use Rattle.std.specs.Option.{option_and_then, option_map_or}
use Rattle.sm_names.specs.declared.keys.HeldBuffer.{HeldBuffer}
use Rattle.sm_names.specs.declared.keys.NodeKey.{NodeKey}
use Rattle.sm_names.specs.declared.tracking.Fired.{Fired}
use Rattle.sm_names.specs.Demands.{Demand}
use Rattle.sm_names.specs.Sameness.{same_key}
use Rattle.forest_store.specs.declared.node.Node.{Node}
use Rattle.forest_store.specs.Nodes.{node_of}
use Rattle.core_state.specs.Reads.{views_of}
use Rattle.core_state.specs.State.{Client, State}
use Rattle.script_labels.specs.Names.{Names}
use Rattle.event_texts.specs.FactTexts.{buffer_name, concat}
use Rattle.picture_model.specs.declared.features.Class.{Class}
use Rattle.picture_model.specs.declared.features.LinkStyle.{LinkStyle}
use Rattle.picture_model.specs.declared.picture.Tree.{Tree}
use Rattle.picture_model.specs.declared.failure_view.Travel.{Travel}
use Rattle.picture_model.specs.declared.failure_view.TravelWay.{TravelWay}
use Rattle.picture_model.specs.BoxLines.{asked_words, fired_words, header_text, kind_words, node_words, state_words}
use Rattle.picture_model.specs.Colors.{edge_text, fill_text, ink_text}
use Rattle.event_texts.specs.KeeperTexts.{keepers_words}
use Rattle.picture_model.specs.Features.{class_of, free_words, link_of, pages_text, place_text, sign_text}
use Rattle.picture_model.specs.Travels.{is_child_of, way_in}

-- ---- the begin of the graph

-- what is set for the graph behind its title, for all boxes and for all links
unfoldable pub graph_words : List ℕ
graph_words =
    codes "\\n \", labelloc=t, labeljust=l, fontsize=18, fontname=\"DejaVu Sans Mono\", nodesep=0.3, ranksep=0.55];\n"

-- what is set for all boxes
unfoldable pub box_words : List ℕ
box_words = codes "  node [shape=box, fontname=\"DejaVu Sans Mono\", fontsize=11, margin=\"0.14,0.08\"];\n"

-- what is set for all links
unfoldable pub link_words : List ℕ
link_words = codes "  edge [fontname=\"DejaVu Sans Mono\", fontsize=11, color=\"#808080\"];\n"

-- the begin of the graph, with the number of the event and its line
unfoldable pub graph_head : ℕ → List ℕ → List ℕ
graph_head event line = concat
    (codes "digraph sysmem {\n  graph [label=\"" ∷ header_text event line ∷ graph_words ∷ box_words ∷ link_words ∷ [])

-- ---- the box of a node

-- how its border looks
abbrev pub border_text : Class → List ℕ
border_text Class.Live = []
border_text Class.Orphan = codes ",dashed"
border_text Class.Origin = []
border_text Class.Taken = []
border_text Class.Ended = codes ",dotted"

-- the end of a box, whose border is thick if its node left at the event
abbrev pub width_text : List NodeKey → NodeKey → List ℕ
width_text left key =
    if list_any (same_key key) left then codes "\", penwidth=3];\n" else codes "\", penwidth=1.5];\n"

-- how the box of a node looks
unfoldable pub look_text : List NodeKey → Node → List ℕ
look_text left n = concat (
    codes ">, style=\"filled"
    ∷ border_text (class_of n)
    ∷ codes "\", fillcolor=\""
    ∷ fill_text (class_of n)
    ∷ codes "\", color=\""
    ∷ edge_text (class_of n)
    ∷ codes "\", fontcolor=\""
    ∷ ink_text (class_of n)
    ∷ width_text left n.key
    ∷ []
    )

-- the line of what the node asks for, if it said so
abbrev pub asked_line : Option Demand → List ℕ
asked_line None = []
asked_line (Some asked) = concat (codes "<br/>" ∷ asked_words asked ∷ [])

-- the begin of a box, with the sign and the label of its node
unfoldable pub box_head : Names → Node → List ℕ
box_head names n = concat
    (codes "    n" ∷ decimal n.event ∷ codes " [label=<<b>" ∷ node_words names n ∷ codes "</b>" ∷ [])

-- the lines of a box
unfoldable pub box_lines : Names → Node → List ℕ
box_lines names n = concat (
    codes "<br/>"
    ∷ state_words names n
    ∷ codes "<br/>"
    ∷ kind_words names n
    ∷ asked_line n.constraints
    ∷ codes "<br/>"
    ∷ place_text names n.end
    ∷ []
    )

-- the box of a node, in a tree of which these nodes left at the event
unfoldable pub box_text : Names → List NodeKey → Node → List ℕ
box_text names left n = concat (box_head names n ∷ box_lines names n ∷ look_text left n ∷ [])

-- ---- the table of the buffers

-- the cells of the buffer's name and pages, each begun so, and the begin of one more
unfoldable pub cells_text : Names → List ℕ → HeldBuffer → List ℕ
cells_text names begin held = concat (
    codes "<tr>"
    ∷ begin
    ∷ buffer_name names held.buffer
    ∷ codes "</td>"
    ∷ begin
    ∷ pages_text held.pages
    ∷ codes "</td><td align=\"left\">"
    ∷ []
    )

-- the row of a buffer with pages
unfoldable pub held_row : State → Names → List ℕ → List NodeKey → HeldBuffer → List ℕ
held_row s names clients strong held = concat (
    cells_text names (codes "<td bgcolor=\"#FAF2CC\">") held
    ∷ keepers_words s names clients strong held.buffer
    ∷ codes "</td></tr>"
    ∷ []
    )

-- the row of a buffer that gave its pages back at the event
unfoldable pub freed_row : Names → HeldBuffer → List ℕ
freed_row names held = concat (cells_text names (codes "<td>") held ∷ codes "home</td></tr>" ∷ [])

-- what is set for the table, and its first row
unfoldable pub table_words : List ℕ
table_words =
    codes " [shape=plain, label=<<table border=\"0\" cellborder=\"1\" cellspacing=\"0\" cellpadding=\"4\" color=\"#666666\"><tr><td><b>buffer</b></td><td><b>pages</b></td><td align=\"left\"><b>kept by</b></td></tr>"

-- whether there is a table
abbrev pub has_table : Tree → Bool
has_table tree = not (length tree.held.items == 0) || not (length tree.freed.items == 0)

-- the table
unfoldable pub table_text : State → Names → List ℕ → Tree → List ℕ
table_text s names clients tree = concat (
    codes "    b"
    ∷ decimal tree.id
    ∷ table_words
    ∷ flat_map (held_row s names clients tree.strong.items) tree.held.items
    ∷ flat_map (freed_row names) tree.freed.items
    ∷ codes "</table>>];\n"
    ∷ []
    )

-- the table, if there is one
abbrev pub buffers_table : State → Names → List ℕ → Tree → List ℕ
buffers_table s names clients tree = if has_table tree then table_text s names clients tree else []

-- the boxes of a tree and its table
unfoldable pub cluster_text : State → Names → List ℕ → Tree → List ℕ
cluster_text s names clients tree = concat (
    codes "  subgraph cluster_"
    ∷ decimal tree.id
    ∷ codes " {\n    color=\"#BBBBBB\"; label=\"\";\n"
    ∷ flat_map (box_text names tree.left.items) tree.nodes.items
    ∷ buffers_table s names clients tree
    ∷ codes "  }\n"
    ∷ []
    )

-- ---- the end of the graph

-- the line of a tracker that fired
unfoldable pub firing_text : Names → Fired → List ℕ
firing_text names firing = concat (codes "\\n" ∷ fired_words names firing ∷ [])

-- that the foot stands below the table of the tree, if it has one
unfoldable pub rank_text : Tree → List ℕ
rank_text tree =
    let below = concat (codes "  b" ∷ decimal tree.id ∷ codes " -> foot [style=invis];\n" ∷ []) in
    if has_table tree then below else []

-- how many pages are free
unfoldable pub pool_words : State → List ℕ
pool_words s = concat (codes "  foot [shape=plaintext, label=\"pool " ∷ free_words (views_of s).free s.pool ∷ [])

-- the pool, the firings, and the end of the graph
unfoldable pub graph_foot : State → Names → List Tree → List ℕ
graph_foot s names trees = concat (
    pool_words s
    ∷ flat_map (firing_text names) s.trackers.fired
    ∷ codes "\"];\n"
    ∷ flat_map rank_text trees
    ∷ codes "}\n"
    ∷ []
    )

-- ---- the links

-- the parent of the node, if it has one
abbrev pub parent_among : List Node → Node → Option Node
parent_among nodes n = option_and_then (node_of nodes) n.parent

-- how an arrow looks that a failure went along, at this step
abbrev pub arrow_text : List ℕ → List ℕ → ℕ → List ℕ
arrow_text direction width step = concat (
    direction
    ∷ codes ", color=\"#D55E00\", penwidth="
    ∷ width
    ∷ codes ", label=\" "
    ∷ decimal step
    ∷ codes "\", fontcolor=\"#D55E00\""
    ∷ []
    )

-- how a link looks at which a failure stopped
unfoldable pub stop_words : List ℕ
stop_words =
    codes "dir=both, arrowhead=tee, arrowtail=none, arrowsize=1.6, color=\"#222222\", penwidth=2, label=\" stops\""

-- how a failure went along a link, if it did
abbrev pub dot_way_text : Option TravelWay → List ℕ
dot_way_text None = codes "dir=none"
dot_way_text (Some (TravelWay.Up step)) = arrow_text (codes "dir=back") (codes "3") step
dot_way_text (Some (TravelWay.Down step)) = arrow_text (codes "dir=forward") (codes "2") step
dot_way_text (Some TravelWay.Stop) = stop_words

-- what stands before that
abbrev pub link_begin : LinkStyle → List ℕ
link_begin LinkStyle.Normal = codes " ["
link_begin LinkStyle.Attached = codes " [style=dashed, "
link_begin LinkStyle.Dispensable = codes " [style=dotted, "

-- the link from a parent that was born at this event
abbrev pub link_text : ℕ → Node → Option TravelWay → List ℕ
link_text above n way = concat (
    codes "  n" ∷ decimal above ∷ codes " -> n" ∷ decimal n.event ∷ link_begin (link_of n) ∷ dot_way_text way ∷ codes "];\n" ∷ []
    )

-- the link of the node to its parent, if it has one
abbrev pub link_to : List Node → List Travel → Node → List ℕ
link_to nodes travels n =
    option_map_or (λ (above : Node). link_text above.event n (way_in travels n.key)) (parent_among nodes n) []

-- whether the node has no child among these
abbrev pub is_leaf : List Node → Node → Bool
is_leaf nodes n = not (list_any (is_child_of n.key) nodes)

-- the events of the births of the nodes that have no child
abbrev pub leaves_of : List Node → List ℕ
leaves_of nodes = map (λ (n : Node). n.event) (filter (is_leaf nodes) nodes)

-- the one in the middle
abbrev pub middle_of : List ℕ → Option ℕ
middle_of events = slice_get events (length events / 2)

-- the link from the middle leaf to the table
abbrev pub table_link : ℕ → ℕ → List ℕ
table_link id event = concat
    (codes "  n" ∷ decimal event ∷ codes " -> b" ∷ decimal id ∷ codes " [style=invis];\n" ∷ [])

-- the same, if there are a table and a leaf
abbrev pub table_link_of : Tree → List ℕ
table_link_of tree =
    if has_table tree then option_map_or (table_link tree.id) (middle_of (leaves_of tree.nodes.items)) [] else []

-- the links of a tree, and one that keeps its table below it
unfoldable pub links_text : List Travel → Tree → List ℕ
links_text travels tree = concat (flat_map (link_to tree.nodes.items travels) tree.nodes.items ∷ table_link_of tree ∷ [])

-- ---- what the signs stand for

-- the begin of the legend, the row of how links look, and the end, which puts the legend below the foot
unfoldable pub legend_begin : List ℕ
legend_begin =
    codes "  subgraph cluster_signs {\n    color=\"#BBBBBB\"; label=\"signs\"; fontsize=11;\n    signs [shape=plain, label=<<table border=\"0\" cellborder=\"0\" cellspacing=\"6\"><tr>"

-- the row of the legend that shows how links look
unfoldable pub link_signs : List ℕ
link_signs =
    codes "<td border=\"3\" color=\"#222222\">thick: gone now</td></tr><tr><td>line: child</td><td>dashes: attached</td><td>dots: dispensable</td><td>thick red: failure up</td><td>red: failure down</td><td>bar: stops</td>"

-- the end of the legend, which puts it below the foot
unfoldable pub legend_end : List ℕ
legend_end = codes "</tr></table>>];\n  }\n  foot -> signs [style=invis];\n"

-- how the border of a cell looks
abbrev pub cell_style : Class → List ℕ
cell_style Class.Live = codes "solid"
cell_style Class.Orphan = codes "dashed"
cell_style Class.Origin = codes "solid"
cell_style Class.Taken = codes "solid"
cell_style Class.Ended = codes "dotted"

-- a cell that looks like a box of this class, with its sign and this word
unfoldable pub sign_cell : Class → List ℕ → List ℕ
sign_cell class word = concat (
    codes "<td border=\"2\" style=\""
    ∷ cell_style class
    ∷ codes "\" bgcolor=\""
    ∷ fill_text class
    ∷ codes "\" color=\""
    ∷ edge_text class
    ∷ codes "\"><font color=\""
    ∷ ink_text class
    ∷ codes "\">"
    ∷ sign_text class
    ∷ word
    ∷ codes "</font></td>"
    ∷ []
    )

-- a cell for each thing that a node is drawn as
unfoldable pub box_signs : List ℕ
box_signs = concat (
    sign_cell Class.Live (codes "live")
    ∷ sign_cell Class.Orphan (codes " released")
    ∷ sign_cell Class.Origin (codes " failed, origin")
    ∷ sign_cell Class.Taken (codes " failed")
    ∷ sign_cell Class.Ended (codes " ended")
    ∷ []
    )

-- what the signs stand for
unfoldable pub legend_text : List ℕ
legend_text = concat (legend_begin ∷ box_signs ∷ link_signs ∷ legend_end ∷ [])

-- ---- the picture

-- a tree: its boxes, its table and its links
unfoldable pub dot_tree : State → Names → List ℕ → List Travel → Tree → List ℕ
dot_tree s names clients travels tree = concat (cluster_text s names clients tree ∷ links_text travels tree ∷ [])

-- the picture of these trees behind the last event, of which this is the line, where failures went along these links
unfoldable pub dot_text : State → Names → List ℕ → List Tree → List Travel → List ℕ
dot_text s names last trees travels = concat (
    graph_head s.events last
    ∷ flat_map (dot_tree s names (map (λ (c : Client). c.id) s.clients) travels) trees
    ∷ legend_text
    ∷ graph_foot s names trees
    ∷ []
    )
