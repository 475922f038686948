-- The outline of a tree: which nodes it has, in which order, and the lines that lead to each.
use Rattle.std.specs.Prelude.{ℕ, zero, suc, ◌+◌, ◌*◌, ◌-◌, ◌^◌, min, Bool, true}
use Rattle.std.specs.Prelude.{false, ◌==◌, ◌&&◌, if◌then◌else◌, List, [], ◌∷◌, ◌++◌, codes, length}
use Rattle.std.specs.List.{filter}
use Rattle.forest_store.specs.declared.node.Node.{Node}
use Rattle.picture_model.specs.declared.features.LinkStyle.{LinkStyle}
use Rattle.picture_model.specs.Features.{link_of}
use Rattle.picture_model.specs.Travels.{is_child_of}
use Rattle.picture_text.specs.declared.outline.Branch.{Branch}
use Rattle.picture_text.specs.declared.outline.OutlineRow.{OutlineRow}

-- a node, the lines that lead to it, and how many columns they take
pub record Line : Type 0 where
  pub node : Node
  pub lines : List ℕ
  pub columns : ℕ

-- a row as that
abbrev pub line_of_row : OutlineRow → Line
line_of_row r = record { node = r.node; lines = r.lines.items; columns = r.columns }

-- a node without a line: what leads to the lines of its parent's children, how deep it hangs, and whether it is the last of them
pub record Twig : Type 0 where
  pub node : Node
  pub stem : List ℕ
  pub depth : ℕ
  pub last : Bool

-- a branch as that
abbrev pub branch_of : Branch → Twig
branch_of b = record { node = b.node; stem = b.stem.items; depth = b.depth; last = b.last }

-- what a node of this depth puts in front of the lines below it, where it is the last of its parent's children or not
abbrev pub stem_text : ℕ → Bool → List ℕ
stem_text depth last = if depth == 0 then [] else if last then codes "    " else (226 ∷ 148 ∷ 130 ∷ 32 ∷ 32 ∷ 32 ∷ [])

-- what leads to a node that is the last of its parent's children or not, along this link, in UTF-8: a line, a double line to an
-- attached node, a wave to a dispensable one
abbrev pub branch_text : Bool → LinkStyle → List ℕ
branch_text false LinkStyle.Normal = 226 ∷ 148 ∷ 156 ∷ 226 ∷ 148 ∷ 128 ∷ 226 ∷ 148 ∷ 128 ∷ 32 ∷ []
branch_text false LinkStyle.Attached = 226 ∷ 148 ∷ 156 ∷ 226 ∷ 149 ∷ 144 ∷ 226 ∷ 149 ∷ 144 ∷ 32 ∷ []
branch_text false LinkStyle.Dispensable = 226 ∷ 148 ∷ 156 ∷ 126 ∷ 126 ∷ 32 ∷ []
branch_text true LinkStyle.Normal = 226 ∷ 148 ∷ 148 ∷ 226 ∷ 148 ∷ 128 ∷ 226 ∷ 148 ∷ 128 ∷ 32 ∷ []
branch_text true LinkStyle.Attached = 226 ∷ 148 ∷ 148 ∷ 226 ∷ 149 ∷ 144 ∷ 226 ∷ 149 ∷ 144 ∷ 32 ∷ []
branch_text true LinkStyle.Dispensable = 226 ∷ 148 ∷ 148 ∷ 126 ∷ 126 ∷ 32 ∷ []

-- the same at this depth: nothing leads to the root
abbrev pub begin_text : ℕ → Bool → LinkStyle → List ℕ
begin_text depth last link = if depth == 0 then [] else branch_text last link

-- the line of a node
abbrev pub line_of_branch : Twig → Line
line_of_branch t = record {
  node = t.node;
  lines = t.stem ++ begin_text t.depth t.last (link_of t.node);
  columns = min (t.depth * 4) (2 ^ 64 - 1);
}

-- a node at this depth, where this leads to its line
abbrev pub twig : Node → List ℕ → ℕ → Bool → Twig
twig n stem depth last = record { node = n; stem = stem; depth = depth; last = last }

-- no node comes behind
abbrev pub is_end : List Node → Bool
is_end [] = true
is_end (n ∷ ns) = false

-- these nodes at this depth, where this leads to their lines, and the last of them is the last of its parent's children, or not
abbrev pub twigs : List ℕ → ℕ → Bool → List Node → List Twig
twigs stem depth last [] = []
twigs stem depth last (n ∷ ns) = twig n stem depth (is_end ns && last) ∷ twigs stem depth last ns

-- the children of a node, by birth
abbrev pub twigs_below : List Node → Twig → List Twig
twigs_below nodes t =
    twigs (t.stem ++ stem_text t.depth t.last) (min (t.depth + 1) (2 ^ 64 - 1)) true (filter (is_child_of t.node.key) nodes)

-- the first of these, which is the root
abbrev pub first_branches : List Node → List Twig
first_branches [] = []
first_branches (root ∷ others) = twig root [] 0 true ∷ []

-- this many lines of these nodes: that of the first that waits, and then those of its children in front of the others that wait
abbrev pub outline_from : ℕ → List Node → List Twig → List Line
outline_from zero nodes waiting = []
outline_from (suc n) nodes [] = []
outline_from (suc n) nodes (next ∷ others) = line_of_branch next ∷ outline_from n nodes (twigs_below nodes next ++ others)

-- the outline of these nodes: the root first, and behind each node the lines of its children, by birth
abbrev pub outline : List Node → List Line
outline nodes = outline_from (length nodes) nodes (first_branches nodes)
