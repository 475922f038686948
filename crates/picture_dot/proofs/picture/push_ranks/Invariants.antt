use Rattle.picture_dot.proofs.Common.{flat_map, take, ◌++◌, ◌≡◌}
use Rattle.picture_dot.specs.DotPictures.{rank_text}
use Rattle.picture_dot.proofs.picture.push_ranks.Given as goal

-- those so far
abbrev pub invariant-loop-tree : goal.invariant-loop-tree
invariant-loop-tree l = l.text.items
    ≡ l.initial.text.items ++ flat_map rank_text (take l.tree-index l.trees)
