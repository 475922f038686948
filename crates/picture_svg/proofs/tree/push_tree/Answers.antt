use Rattle.picture_svg.proofs.Common.{after, ap, bars_bottom, bars_text, capped_sum, last, map, shown_in, svg_tree, tree_bottom, ℕ, ◌++◌}
use Rattle.picture_svg.proofs.Common.{◌∙◌}
use Rattle.picture_svg.specs.Bars.{bars_right, shown_of}
use Rattle.picture_svg.specs.Trees.{bars_row, svg_nodes, tree_right}
use Rattle.picture_svg.proofs.tree.push_tree.Goals as goal

-- the links and the boxes, and the buffers in the row below the lowest box
pub returns-clause-text : goal.returns-clause-text
unfolding svg_tree
returns-clause-text c = λ names keeps calls steps finds.
    let s = c.args.sheet.now.event_writer.now.session.core in
    let width : ℕ = c.args.sheet.now.width in
    let y : ℕ = c.args.above.bottom in
    let tree = c.args.tree.now in
    let shown = ap (map shown_in) c.deref.ensures.value ∙ c.in_ok-bars.ensures names keeps calls in
    after _ (svg_nodes names steps width y tree) _ _ _ (c.in_ok-below.ensures.text names keeps calls steps finds)
    (last _ (bars_text width (bars_row width y tree) (shown_of s names c.args.sheet.now.clients.now.items tree)) _
    (c.in_ok-extent.ensures.text ∙ (λ i. c.push_nodes.new.body.items ++ bars_text width (c.in_ok-below.ensures.bottom i) (shown i))))

-- the row below the buffers
pub returns-clause-bottom : goal.returns-clause-bottom
unfolding tree_bottom
returns-clause-bottom c = λ names keeps calls.
    let shown = ap (map shown_in) c.deref.ensures.value ∙ c.in_ok-bars.ensures names keeps calls in
    c.plus.ensures
    ∙ ap (λ (low : ℕ). capped_sum low 26) (c.in_ok-extent.ensures.bottom ∙ (λ i. bars_bottom (c.in_ok-below.ensures.bottom i) (shown i)))

-- the last column of what is above, of the boxes, or of the words beside the buffers
pub returns-clause-right : goal.returns-clause-right
unfolding tree_right
returns-clause-right c = λ names keeps calls.
    let shown = ap (map shown_in) c.deref.ensures.value ∙ c.in_ok-bars.ensures names keeps calls in
    c.in_ok-extent.ensures.right ∙ (λ i. bars_right c.args.sheet.now.width (c.in_ok-below.ensures.right i) (shown i))
