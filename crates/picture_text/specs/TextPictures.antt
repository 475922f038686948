-- The text of a picture, as a function of a core, of what labels stand for, and of the trees that are shown.
use Rattle.std.specs.Prelude.{ℕ, ◌+◌, ◌-◌, ◌^◌, min, max, fold, Bool, ◌==◌, ◌&&◌, nat_lt, nat_le}
use Rattle.std.specs.Prelude.{if◌then◌else◌, List, [], ◌∷◌, ◌++◌, codes, decimal, length, map, replicate, Option, Some, None}
use Rattle.std.specs.List.{flat_map, list_any, range_with_len}
use Rattle.sm_names.specs.declared.keys.HeldBuffer.{HeldBuffer}
use Rattle.sm_names.specs.declared.keys.NodeKey.{NodeKey}
use Rattle.sm_names.specs.declared.tracking.Fired.{Fired}
use Rattle.sm_names.specs.Demands.{Demand}
use Rattle.sm_names.specs.Sameness.{same_key}
use Rattle.forest_store.specs.declared.node.Node.{Node}
use Rattle.forest_store.specs.Forest.{held_by_page}
use Rattle.core_state.specs.Reads.{views_of}
use Rattle.core_state.specs.State.{Client, State}
use Rattle.script_lines.specs.Labels.{label_text}
use Rattle.script_labels.specs.Names.{Names, label_of_node}
use Rattle.event_texts.specs.Called.{last_label, other_text}
use Rattle.event_texts.specs.FactTexts.{buffer_name, concat}
use Rattle.picture_model.specs.declared.features.Class.{Class}
use Rattle.picture_model.specs.declared.picture.Tree.{Tree}
use Rattle.picture_model.specs.BoxLines.{asked_words, fired_words, header_text, state_words}
use Rattle.event_texts.specs.KeeperTexts.{keepers_words}
use Rattle.picture_model.specs.Features.{class_of, free_words, kind_text, pages_text, place_text, sign_text}
use Rattle.picture_text.specs.declared.outline.OutlineRow.{OutlineRow}
use Rattle.picture_text.specs.Outlines.{Line, line_of_row, outline}
use Rattle.picture_text.specs.declared.picture.TheConstants.{MOST_DRAWN}

-- ---- the first line

-- the number of the event and its line
abbrev pub head_text : ℕ → List ℕ → List ℕ
head_text event line = concat (header_text event line ∷ codes "\n" ∷ [])

-- ---- the row of a node

-- the words in parentheses, if there are some
abbrev pub in_parentheses : List ℕ → List ℕ
in_parentheses words = if length words == 0 then [] else concat (codes " (" ∷ words ∷ codes ")" ∷ [])

-- the label of the node's birth, and in parentheses the last under which its end was collected, if that is another
abbrev pub full_name : Names → NodeKey → List ℕ
full_name names node = let first = label_of_node names node in label_text first ++ in_parentheses (other_text (last_label names node) first)

-- how many columns the lines that lead to the node take, and its name
abbrev pub row_width : Names → Line → ℕ
row_width names r = min (r.columns + length (full_name names r.node.key)) (2 ^ 64 - 1)

-- the width of the widest of the rows
abbrev pub widest : Names → List Line → ℕ
widest names rows = fold (λ width r. max width (row_width names r)) 0 rows

-- the same of rows as they are kept
abbrev pub widest_row : Names → List OutlineRow → ℕ
widest_row names rows = fold (λ width r. max width (row_width names (line_of_row r))) 0 rows

-- spaces from this many columns up to this width
abbrev pub spaces : ℕ → ℕ → List ℕ
spaces taken width = replicate (width - taken) 32

-- the lines that lead to the node, and its name, up to this width
abbrev pub name_cell : Names → ℕ → Line → List ℕ
name_cell names width r = concat (r.lines ∷ full_name names r.node.key ∷ spaces (row_width names r) width ∷ [])

-- the sign of what a node is drawn as, or a space
abbrev pub sign_cell : Class → List ℕ
sign_cell class = if length (sign_text class) == 0 then codes " " else sign_text class

-- whether the node left at the event
abbrev pub node_mark : List NodeKey → NodeKey → List ℕ
node_mark left key = if list_any (same_key key) left then codes "! " else codes "  "

-- that the node is dispensable
abbrev pub dispensable_text : Node → List ℕ
dispensable_text n = if n.dispensable then codes "; dispensable" else []

-- that the node is weak
abbrev pub weak_text : Node → List ℕ
weak_text n = if n.weak then codes "; weak" else []

-- what the node asks for
abbrev pub asked_text : Option Demand → List ℕ
asked_text None = []
asked_text (Some asked) = concat (codes "; " ∷ asked_words asked ∷ [])

-- what is said of the node behind its state
abbrev pub facts_text : Names → Node → List ℕ
facts_text names n = concat
    (codes "; " ∷ kind_text n ∷ dispensable_text n ∷ weak_text n ∷ asked_text n.constraints ∷ codes "; " ∷ place_text names n.end ∷ codes "\n" ∷ [])

-- the signs of a node
abbrev pub signs_of_node : List NodeKey → Node → List ℕ
signs_of_node left n = concat (codes "  " ∷ sign_cell (class_of n) ∷ node_mark left n.key ∷ [])

-- the row of a node, in a tree of this width, of which these nodes left at the event
abbrev pub row_text : Names → ℕ → List NodeKey → Line → List ℕ
row_text names width left r = concat
    (name_cell names width r ∷ signs_of_node left r.node ∷ state_words names r.node ∷ facts_text names r.node ∷ [])

-- the same, of what the program has as a row
abbrev pub told_row : Names → ℕ → List NodeKey → OutlineRow → List ℕ
told_row names width left r = row_text names width left (line_of_row r)

-- ---- the row of a buffer

-- who keeps the buffer: live nodes, these clients and parcels
abbrev pub keepers_text : State → Names → List ℕ → List NodeKey → HeldBuffer → List ℕ
keepers_text s names clients strong held =
    concat (codes "; kept by " ∷ keepers_words s names clients strong held.buffer ∷ codes "\n" ∷ [])

-- the name of the buffer, up to this width, and its pages
abbrev pub pages_row : Names → ℕ → HeldBuffer → List ℕ
pages_row names width held = concat (
    buffer_name names held.buffer
    ∷ spaces (length (buffer_name names held.buffer)) width
    ∷ codes "     "
    ∷ pages_text held.pages
    ∷ []
    )

-- the row of a buffer, in a tree of this width, of which these nodes are strong and live
abbrev pub buffer_row : State → Names → List ℕ → ℕ → List NodeKey → HeldBuffer → List ℕ
buffer_row s names clients width strong held =
    concat (pages_row names width held ∷ keepers_text s names clients strong held ∷ [])

-- the row of a buffer that gave its pages back at the event, in a tree of this width
abbrev pub freed_row : Names → ℕ → HeldBuffer → List ℕ
freed_row names width held = concat (pages_row names width held ∷ codes "; home\n" ∷ [])

-- ---- the picture

-- a tree behind an empty line: a row for each node, one for each buffer with pages, and one for each that gave its pages back
abbrev pub tree_text : State → Names → List ℕ → Tree → List ℕ
tree_text s names clients tree =
    let rows : List Line = outline tree.nodes.items in
    let width = widest names rows in
    concat (
    codes "\n"
    ∷ flat_map (row_text names width tree.left.items) rows
    ∷ flat_map (buffer_row s names clients width tree.strong.items) tree.held.items
    ∷ flat_map (freed_row names width) tree.freed.items
    ∷ []
    )

-- the page is one of these
abbrev pub has_page : ℕ → HeldBuffer → Bool
has_page page held = nat_le held.pages.start page && nat_lt (page - held.pages.start) held.pages.pages

-- the sign of a page, full or light, in UTF-8
abbrev pub sign_of_page : List HeldBuffer → ℕ → List ℕ
sign_of_page held page = if list_any (has_page page) held then 226 ∷ 150 ∷ 136 ∷ [] else 226 ∷ 150 ∷ 145 ∷ []

-- the signs of this many pages
abbrev pub signs_of_pages : List HeldBuffer → ℕ → List ℕ
signs_of_pages held pages = concat (map (sign_of_page held) (range_with_len 0 pages))

-- the signs of all pages of the pool, unless it has many
abbrev pub pool_signs : List HeldBuffer → ℕ → List ℕ
pool_signs held pages = if nat_lt MOST_DRAWN pages then [] else concat (signs_of_pages held pages ∷ codes " " ∷ [])

-- the pool behind an empty line
abbrev pub pool_text : State → List ℕ
pool_text s = concat (
    codes "\npool "
    ∷ pool_signs (held_by_page s.forest) s.pool
    ∷ free_words (views_of s).free s.pool
    ∷ codes "\n"
    ∷ []
    )

-- a line for each tracker that fired
abbrev pub fired_line : Names → Fired → List ℕ
fired_line names firing = concat (fired_words names firing ∷ codes "\n" ∷ [])

-- the lines of the trackers that fired
abbrev pub fired_lines : Names → List Fired → List ℕ
fired_lines names fired = flat_map (fired_line names) fired

-- the picture of these trees behind the last event, of which this is the line
unfoldable pub picture_text : State → Names → List ℕ → List Tree → List ℕ
picture_text s names last trees = concat (
    head_text s.events last
    ∷ flat_map (tree_text s names (map (λ (c : Client). c.id) s.clients)) trees
    ∷ pool_text s
    ∷ fired_lines names s.trackers.fired
    ∷ []
    )
