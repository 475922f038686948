-- The outline of a tree, one more line at a time.
use Rattle.std.proofs.Common.{◌≡◌, ◌∙◌, refl, ap, sym, ℕ, zero, ◌+◌, ◌-◌, ◌<◌, ◌≤◌, suc, max, fold, Bool, true, false}
use Rattle.std.proofs.Common.{◌&&◌, List, [], ◌∷◌, ◌++◌, append_assoc, append-nil, arith, length, map, reverse}
use Rattle.std.proofs.lemmas.List.{reverse-append}
use Rattle.std.specs.List.{flat_map}
use Rattle.script_labels.specs.Names.{Names}
use Rattle.forest_store.specs.declared.node.Node.{Node}
use Rattle.picture_text.specs.declared.outline.OutlineRow.{OutlineRow}
use Rattle.picture_text.specs.Outlines.{Line, Twig, first_branches, is_end, line_of_row, line_of_branch}
use Rattle.picture_text.specs.Outlines.{outline_from, outline, twig, twigs, twigs_below}
use Rattle.picture_text.specs.TextPictures.{row_width, widest, widest_row}

-- a node that another comes behind is not the last
not_end : (ns : List Node) (c : Node) → is_end (ns ++ c ∷ []) ≡ false
not_end [] c = refl
not_end (n ∷ ns) c = refl

-- a conjunction is false where its second part is, whatever the first part is
never : (b : Bool) → (b && false) ≡ false
never true = refl
never false = refl

-- one node more comes last
twigs_more : (stem : List ℕ) (depth : ℕ) (last : Bool) (ns : List Node) (c : Node) →
    twigs stem depth last (ns ++ c ∷ []) ≡ twigs stem depth false ns ++ twig c stem depth last ∷ []
twigs_more stem depth last [] c = refl
twigs_more stem depth last (n ∷ ns) c =
    let first : (is_end (ns ++ c ∷ []) && last) ≡ (is_end ns && false) = ap (λ (b : Bool). b && last) (not_end ns c)
    ∙ sym (never (is_end ns)) in
    λ i. twig n stem depth (first i) ∷ twigs_more stem depth last ns c i

-- what was put on top comes first
turned : (ts : List Twig) (t : Twig) → reverse (ts ++ t ∷ []) ≡ t ∷ reverse ts
turned ts t = reverse-append ts (t ∷ [])

-- the last child that is left goes on top
pub child_more : (stem : List ℕ) (depth : ℕ) (last : Bool) (all left : List Node) (c : Node) (old new : List Twig) →
    all ≡ left ++ c ∷ [] → new ≡ old ++ twig c stem depth last ∷ [] →
    twigs stem depth false left ++ reverse new ≡ twigs stem depth last all ++ reverse old
child_more stem depth last all left c old new rest top =
    ap (λ (ts : List Twig). twigs stem depth false left ++ ts) (ap reverse top ∙ turned old (twig c stem depth last))
    ∙ (sym (append_assoc (twigs stem depth false left) (twig c stem depth last ∷ []) (reverse old))
    ∙ ap (λ (ts : List Twig). ts ++ reverse old) (sym (ap (twigs stem depth last) rest ∙ twigs_more stem depth last left c)))

-- the root alone stands first and last
pub begun : (nodes : List Node) (ts : List Twig) → ts ≡ first_branches nodes →
    outline_from (length nodes) nodes (reverse ts) ≡ outline nodes
begun nodes ts is = ap (λ (waiting : List Twig). outline_from (length nodes) nodes (reverse waiting)) is ∙ alone nodes
  where
    -- by cases: the list is empty, or the root alone
    alone : (ns : List Node) → outline_from (length nodes) nodes (reverse (first_branches ns))
        ≡ outline_from (length nodes) nodes (first_branches ns)
    alone [] = refl
    alone (root ∷ others) = refl

-- one more line, and the children of its node wait in front of the others
pub line_more : (count : ℕ) (nodes : List Node) (at : ℕ) (lines : List Line) (t : Twig) (old left new : List Twig) → at < count →
    old ≡ left ++ t ∷ [] → reverse new ≡ twigs_below nodes t ++ reverse left →
    (lines ++ line_of_branch t ∷ []) ++ outline_from (count - (at + 1)) nodes (reverse new)
    ≡ lines ++ outline_from (count - at) nodes (reverse old)
line_more count nodes at lines t old left new more top below =
    let n : ℕ = count - (at + 1) in
    let one : count - at ≡ suc n = omega arith in
    let first : reverse old ≡ t ∷ reverse left = ap reverse top ∙ turned left t in
    append_assoc lines (line_of_branch t ∷ []) (outline_from n nodes (reverse new))
    ∙ (ap (λ (ts : List Twig). lines ++ line_of_branch t ∷ outline_from n nodes ts) below
    ∙ sym (λ i. lines ++ outline_from (one i) nodes (first i)))

-- no line is left where no node waits
lines_none : (n : ℕ) (nodes : List Node) → outline_from n nodes [] ≡ []
lines_none zero nodes = refl
lines_none (suc n) nodes = refl

-- the lines so far are all lines where no node waits
pub none_waits : (n : ℕ) (nodes : List Node) (lines : List Line) (ts : List Twig) → ts ≡ [] →
    lines ++ outline_from n nodes (reverse ts) ≡ lines
none_waits n nodes lines ts none =
    ap (λ (l : List Twig). lines ++ outline_from n nodes (reverse l)) none
    ∙ (ap (λ (l : List Line). lines ++ l) (lines_none n nodes) ∙ append-nil lines)

-- nor behind this many
pub lines_end : (count : ℕ) (nodes : List Node) (at : ℕ) (lines : List Line) (ts : List Twig) → count ≤ at →
    lines ++ outline_from (count - at) nodes ts ≡ lines
lines_end count nodes at lines ts all =
    let none : count - at ≡ 0 = omega arith in
    ap (λ (n : ℕ). lines ++ outline_from n nodes ts) none ∙ append-nil lines

-- the widest row is the widest line
pub widest_lines : (names : Names) (rows : List OutlineRow) → widest_row names rows ≡ widest names (map line_of_row rows)
widest_lines names rows = from rows 0
  where
    -- by induction on the rows
    from : (rs : List OutlineRow) (width : ℕ) → fold (λ width r. max width (row_width names (line_of_row r))) width rs
        ≡ fold (λ width l. max width (row_width names l)) width (map line_of_row rs)
    from [] width = refl
    from (r ∷ rs) width = from rs (max width (row_width names (line_of_row r)))

-- texts of rows are texts of their lines
pub texts_of_lines : (f : Line → List ℕ) (rows : List OutlineRow) →
    flat_map (λ r. f (line_of_row r)) rows ≡ flat_map f (map line_of_row rows)
texts_of_lines f [] = refl
texts_of_lines f (r ∷ rs) = ap (λ (t : List ℕ). f (line_of_row r) ++ t) (texts_of_lines f rs)
