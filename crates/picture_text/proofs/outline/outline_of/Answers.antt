use Rattle.std.proofs.Common.{◌≡◌, ◌∙◌, ◌++◌, arith, length, map, reverse}
use Rattle.picture_text.specs.Outlines.{branch_of, line_of_row, outline_from}
use Rattle.picture_text.proofs.Branches.{begun}
use Rattle.picture_text.proofs.outline.outline_of.Goals as goal

-- the root waits alone
pub returns : goal.returns
returns c =
    let nodes = c.args.nodes.now.items in
    let all : c.len.result ≡ length nodes = omega arith in
    c.in_ok-push_waiting.ensures nodes c.in_ok-children.ensures
    ∙ ((λ i. map line_of_row (c.new-rows.ensures.items i) ++ outline_from (all i) nodes
    (reverse (map branch_of c.in_ok-waiting.waiting.items)))
    ∙ begun nodes (map branch_of c.in_ok-waiting.waiting.items) c.in_ok-waiting.ensures)
