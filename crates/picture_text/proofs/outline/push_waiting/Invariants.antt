use Rattle.std.proofs.Common.{◌≡◌, ◌-◌, ◌++◌, List, map, reverse}
use Rattle.forest_store.specs.declared.node.Node.{Node}
use Rattle.picture_model.specs.Kin.{FindsChildren}
use Rattle.picture_text.specs.Outlines.{branch_of, line_of_row, outline_from}
use Rattle.picture_text.proofs.outline.push_waiting.Given as goal

-- the lines so far, and those that are left, are all
abbrev pub invariant-loop-at : goal.invariant-loop-at
invariant-loop-at l = (nodes : List Node) → FindsChildren l.children nodes →
    map line_of_row l.rows.items ++ outline_from (l.count - l.at) nodes (reverse (map branch_of l.waiting.items))
    ≡ map line_of_row l.initial.rows.items ++ outline_from l.count nodes (reverse (map branch_of l.initial.waiting.items))
