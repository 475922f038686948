use Rattle.picture_svg.proofs.Common.{ap, trees_bottom, trees_right, ◌∙◌}
use Rattle.picture_svg.specs.SvgPictures.{box_width, last_column, pool_row}
use Rattle.picture_svg.proofs.picture.push_all_trees.Goals as goal

-- the row below the trees
pub returns-clause-bottom : goal.returns-clause-bottom
unfolding pool_row
returns-clause-bottom c = λ names keeps calls row.
    let width = c.in_ok-width.ensures names keeps calls ∙ ap (box_width names) c.deref-2.ensures.value in
    c.in_ok-extent.ensures.bottom names keeps calls
    ∙ (λ i. trees_bottom c.args.event_writer.now.session.core names (c.in_ok-clients.ensures.value i)
    (width i) (row i) (c.deref-3.ensures.value i))

-- the last column of the trees
pub returns-clause-right : goal.returns-clause-right
unfolding last_column
returns-clause-right c = λ names keeps calls row.
    let width = c.in_ok-width.ensures names keeps calls ∙ ap (box_width names) c.deref-2.ensures.value in
    c.in_ok-extent.ensures.right names keeps calls
    ∙ (λ i. trees_right c.args.event_writer.now.session.core names (c.in_ok-clients.ensures.value i)
    (width i) (row i) 0 (c.deref-3.ensures.value i))
