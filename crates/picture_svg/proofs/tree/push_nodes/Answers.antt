use Rattle.picture_svg.proofs.Common.{after, ap, box_link, capped_sum, flat_map, last, max, svg_box, ℕ, ◌++◌, ◌∙◌}
use Rattle.std.proofs.Common.{◌+◌}
use Rattle.picture_layout.specs.declared.layout.TheConstants.{BOX_HEIGHT}
use Rattle.picture_layout.specs.Layouts.{lowest_of, rightmost_of}
use Rattle.picture_svg.specs.Trees.{tree_boxes}
use Rattle.picture_svg.proofs.tree.push_nodes.Goals as goal

-- the links, and the boxes
pub returns-clause-text : goal.returns-clause-text
returns-clause-text c = λ names keeps calls steps finds.
    let width : ℕ = c.args.width in
    let y : ℕ = c.args.above.bottom in
    let tree = c.args.tree.now in
    let linked = c.deref.ensures.value ∙ c.in_ok-boxes.ensures in
    let boxed = c.deref-2.ensures.value ∙ c.in_ok-boxes.ensures in
    after _ (flat_map (box_link steps width) (tree_boxes width y tree)) _ _ _
    (c.in_ok-push_links.ensures steps finds ∙ (λ i. c.args.body.now.items ++ flat_map (box_link steps width) (linked i)))
    (last _ (flat_map (svg_box names width) (tree_boxes width y tree)) _
    (c.in_ok-push_boxes.ensures names keeps calls ∙ (λ i. c.push_links.new.body.items ++ flat_map (svg_box names width) (boxed i))))

-- the row below the lowest box
pub returns-clause-bottom : goal.returns-clause-bottom
returns-clause-bottom c =
    c.plus-row.ensures
    ∙ ap (λ (low : ℕ). capped_sum low (BOX_HEIGHT + 30))
    (c.lowest_row.ensures ∙ ap (lowest_of c.args.above.bottom) (c.deref-3.ensures.value ∙ c.in_ok-boxes.ensures))

-- the last column of what is above, or of the boxes
pub returns-clause-right : goal.returns-clause-right
returns-clause-right c =
    c.max-right.ensures
    ∙ ap (max c.args.above.right) (c.right_edge.ensures ∙ ap (rightmost_of c.args.width) (c.deref-4.ensures.value ∙ c.in_ok-boxes.ensures))
