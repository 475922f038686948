-- The buffers of a tree as a vector graphic.
use Rattle.std.specs.Prelude.{ℕ, ◌+◌, ◌==◌, max, Bool, false, if◌then◌else◌, List, [], ◌∷◌, ◌++◌, codes, length, map}
use Rattle.std.specs.List.{filter, flat_map, fold, range_with_len}
use Rattle.sm_names.specs.declared.keys.HeldBuffer.{HeldBuffer}
use Rattle.sm_names.specs.declared.keys.NodeKey.{NodeKey}
use Rattle.sm_names.specs.declared.rules.TheConstants.{MAX_BUFFERS}
use Rattle.core_state.specs.State.{State}
use Rattle.script_labels.specs.Names.{Names}
use Rattle.event_texts.specs.FactTexts.{buffer_name, concat}
use Rattle.picture_model.specs.declared.picture.Tree.{Tree}
use Rattle.event_texts.specs.KeeperTexts.{keepers_words}
use Rattle.picture_model.specs.Features.{pages_text}
use Rattle.picture_layout.specs.declared.layout.TheConstants.{COLUMN_GAP}
use Rattle.picture_layout.specs.Lengths.{capped_product, capped_sum}
use Rattle.picture_svg.specs.declared.bars.Bar.{Bar}
use Rattle.picture_svg.specs.declared.elements.TheConstants.{MARGIN}
use Rattle.picture_svg.specs.Elements.{Paint, look, rect_text, words_text}

-- what is drawn of a buffer: its name and pages, its holders, how many letters these have, and its colours
pub record Shown : Type 0 where
  pub name : List ℕ
  pub keepers : List ℕ
  pub letters : ℕ
  pub fill : List ℕ
  pub dashes : List ℕ

-- what a bar of the code shows
abbrev pub shown_in : Bar → Shown
shown_in b = record {
  name = b.name.items;
  keepers = b.keepers.items;
  letters = b.letters;
  fill = b.fill.now;
  dashes = b.dashes.now;
}

-- its name and pages
unfoldable pub buffer_line : Names → HeldBuffer → List ℕ
buffer_line names held = concat (buffer_name names held.buffer ∷ codes "  " ∷ pages_text held.pages ∷ [])

-- its holders
unfoldable pub kept_line : State → Names → List ℕ → List NodeKey → HeldBuffer → List ℕ
kept_line s names clients strong held =
    concat (codes "kept by " ∷ keepers_words s names clients strong held.buffer ∷ [])

-- what is drawn of a buffer with pages
abbrev pub held_shown : State → Names → List ℕ → List NodeKey → HeldBuffer → Shown
held_shown s names clients strong held = record {
  name = buffer_line names held;
  keepers = kept_line s names clients strong held;
  letters = length (kept_line s names clients strong held);
  fill = codes "#FAF2CC";
  dashes = [];
}

-- what is drawn of a buffer that gave its pages back at the event
abbrev pub freed_shown : Names → HeldBuffer → Shown
freed_shown names freed = record {
  name = buffer_line names freed;
  keepers = codes "home";
  letters = 4;
  fill = codes "#FFFFFF";
  dashes = codes "3 3";
}

-- the held buffer has this index
abbrev pub has_index : ℕ → HeldBuffer → Bool
has_index index held = held.buffer.index == index

-- the buffers with this index, and those with all indexes, of which there are at most 64
abbrev pub shown_at : State → Names → List ℕ → Tree → ℕ → List Shown
shown_at s names clients tree index =
    map (held_shown s names clients tree.strong.items) (filter (has_index index) tree.held.items)
    ++ map (freed_shown names) (filter (has_index index) tree.freed.items)

-- the buffers of all indexes
unfoldable pub shown_to : State → Names → List ℕ → Tree → ℕ → List Shown
shown_to s names clients tree count = flat_map (λ shown. shown) (map (shown_at s names clients tree) (range_with_len 0 count))

-- the bars of the tree, one for each buffer that is shown, by index
abbrev pub shown_of : State → Names → List ℕ → Tree → List Shown
shown_of s names clients tree = shown_to s names clients tree MAX_BUFFERS

-- ---- how they are drawn

-- how a bar is painted
abbrev pub bar_paint : Shown → Paint
bar_paint b = record { rounded = 3; fill = b.fill; stroke = codes "#7A6A00"; stroke_width = []; dashes = b.dashes }

-- the column of the words beside a buffer, where a box has this width
abbrev pub words_column : ℕ → ℕ
words_column width = capped_sum (MARGIN + COLUMN_GAP) width

-- a buffer in this row, where a box has this width
unfoldable pub bar_text : ℕ → ℕ → Shown → List ℕ
bar_text width y b = concat (
    rect_text MARGIN y 216 22 (bar_paint b)
    ∷ words_text (MARGIN + 10) (capped_sum y 15) (look 12 false (codes "#222222") false) b.name
    ∷ words_text (words_column width) (capped_sum y 15) (look 12 false (codes "#222222") false) b.keepers
    ∷ []
    )

-- these buffers, from this row on
abbrev pub bars_text : ℕ → ℕ → List Shown → List ℕ
bars_text width y [] = []
bars_text width y (b ∷ bs) = bar_text width y b ++ bars_text width (capped_sum y 26) bs

-- the last column of the words beside them, or this one
unfoldable pub bars_right : ℕ → ℕ → List Shown → ℕ
bars_right width right bars = fold (λ x b. max x (capped_sum (words_column width) (capped_product 8 b.letters))) right bars

-- the first row below them
abbrev pub bars_bottom : ℕ → List Shown → ℕ
bars_bottom y [] = y
bars_bottom y (b ∷ bs) = bars_bottom (capped_sum y 26) bs
