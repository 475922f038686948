use Rattle.picture_svg.proofs.Common.{ap, nil_from_length, svg_tree, svg_trees, sym, tree_bottom, trees_bottom, trees_right, ℕ, ◌++◌, ◌∙◌}
use Rattle.picture_svg.proofs.Rows.{more, none}
use Rattle.picture_svg.proofs.tree.push_trees.Goals as goal

-- one more
pub trees-preserved : goal.trees-preserved
trees-preserved c = λ names keeps calls.
    let s = c.args.sheet.now.event_writer.now.session.core in
    let clients = c.args.sheet.now.clients.now.items in
    let width : ℕ = c.args.sheet.now.width in
    let y : ℕ = c.trees.bottom in
    let tree = c.in-Some.tree.now in
    let later = c.in-Some.later.now in
    let below = c.in_ok-extent.ensures.bottom names keeps calls in
    let beside = c.in_ok-extent.ensures.right names keeps calls in
    let first = c.in-Some.ensures.cases.0 in
    let rest = c.trees.invariant names keeps calls in (
      λ steps finds.
          ap (λ (row : ℕ). c.push_tree.new.body.items ++ svg_trees s names clients steps width row later) below
          ∙ (more c.trees.body.items c.push_tree.new.body.items (svg_tree s names clients steps width y tree)
          (svg_trees s names clients steps width (tree_bottom s names clients width y tree) later)
          (svg_trees s names clients steps width y c.trees.rest.now)
          (c.in_ok-extent.ensures.text names keeps calls steps finds)
          (ap (svg_trees s names clients steps width y) first)
          ∙ rest.0 steps finds),
      ap (λ (row : ℕ). trees_bottom s names clients width row later) below
          ∙ (sym (ap (trees_bottom s names clients width y) first) ∙ rest.1),
      (λ i. trees_right s names clients width (below i) (beside i) later)
          ∙ (sym (ap (trees_right s names clients width y c.trees.right) first) ∙ rest.2),
    )

-- none is left
pub returns-clause-text : goal.returns-clause-text
returns-clause-text c = λ names keeps calls steps finds.
    let text = svg_trees c.args.sheet.now.event_writer.now.session.core names c.args.sheet.now.clients.now.items steps
    c.args.sheet.now.width c.trees.bottom in
    none c.trees.body.items (text c.trees.rest.now) (ap text (nil_from_length c.trees.rest.now c.in_default.ensures.cases))
    ∙ (c.trees.invariant names keeps calls).0 steps finds

pub returns-clause-bottom : goal.returns-clause-bottom
returns-clause-bottom c = λ names keeps calls.
    sym (ap (trees_bottom c.args.sheet.now.event_writer.now.session.core names c.args.sheet.now.clients.now.items
    c.args.sheet.now.width c.trees.bottom)
    (nil_from_length c.trees.rest.now c.in_default.ensures.cases))
    ∙ (c.trees.invariant names keeps calls).1

pub returns-clause-right : goal.returns-clause-right
returns-clause-right c = λ names keeps calls.
    sym (ap (trees_right c.args.sheet.now.event_writer.now.session.core names c.args.sheet.now.clients.now.items
    c.args.sheet.now.width c.trees.bottom c.trees.right)
    (nil_from_length c.trees.rest.now c.in_default.ensures.cases))
    ∙ (c.trees.invariant names keeps calls).2
