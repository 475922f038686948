use Rattle.picture_svg.proofs.Common.{Calls, Keeps, Names, fold, take, ◌≡◌}
use Rattle.picture_svg.specs.SvgPictures.{tree_tenths}
use Rattle.picture_svg.proofs.picture.all_tenths.Given as goal

-- those of the trees so far
abbrev pub invariant-loop-tree : goal.invariant-loop-tree
invariant-loop-tree l = (names : Names) → Keeps l.event_writer.session.tables names → Calls l.event_writer.labels names →
    l.tenths ≡ fold (tree_tenths names) 2000 (take l.tree-index l.trees)
