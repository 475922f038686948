use Rattle.std.proofs.Common.{◌∙◌, ap, sym, ◌++◌, List, map, reverse}
use Rattle.std.proofs.lemmas.List.{nil_from_length}
use Rattle.forest_store.specs.declared.node.Node.{Node}
use Rattle.picture_text.specs.Outlines.{branch_of, twigs}
use Rattle.picture_text.proofs.Branches.{child_more}
use Rattle.picture_text.proofs.outline.push_branches.Goals as goal

-- one more goes on top
pub children-preserved : goal.children-preserved
children-preserved c =
    child_more c.args.stem.now c.args.depth c.children.last c.children.left.now c.in-Some.older.now c.in-Some.node.now
    (map branch_of c.children.waiting.items) (map branch_of c.push_branch.new.waiting.items)
    c.in-Some.ensures.cases.0 c.in_ok-push_branch.ensures
    ∙ c.children.invariant

-- none is left
pub returns : goal.returns
returns c =
    ap (λ (l : List Node). twigs c.args.stem.now c.args.depth c.children.last l ++ reverse (map branch_of c.children.waiting.items))
    (sym (nil_from_length c.children.left.now c.in_default.ensures.cases))
    ∙ c.children.invariant
