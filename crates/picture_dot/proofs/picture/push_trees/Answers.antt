use Rattle.picture_dot.proofs.Common.{arith, common_steps, dot_tree, get_or, length, one-more, ◌<◌, ◌≡◌}
use Rattle.picture_dot.proofs.picture.push_trees.Goals as goal

-- one more comes last
pub loop-tree-preserved : goal.loop-tree-preserved
loop-tree-preserved c = λ names keeps calls links went.
    let within : c.loop-tree.tree-index < length c.args.trees.now = omega arith in
    let is : get_or c.args.trees.now c.loop-tree.tree-index c.tree-item.result ≡ c.tree-item.result = grind (arith, common_steps) in
    one-more (dot_tree c.args.event_writer.now.session.core names c.args.clients.now.items links)
    c.args.trees.now c.loop-tree.tree-index c.tree-item.result
    c.args.text.now.items c.loop-tree.text.items c.push_tree.new.text.items within is (c.loop-tree.invariant names keeps calls links went)
    (c.in_ok-push_tree.ensures names keeps calls links went)
