use Rattle.std.proofs.Common.{arith, sym}
use Rattle.picture_text.specs.TextPictures.{tree_text}
use Rattle.picture_model.proofs.Loops.{one-more}
use Rattle.picture_text.proofs.picture.push_trees.Goals as goal

-- one more comes last
pub loop-tree-preserved : goal.loop-tree-preserved
loop-tree-preserved c = λ names keeps calls.
    one-more (tree_text c.args.event_writer.now.session.core names c.args.clients.now.items) c.args.trees.now
    c.loop-tree.tree-index c.tree-item.result c.args.text.now.items
    c.loop-tree.text.items c.push_tree.new.text.items (omega arith) (sym c.tree-item.is)
    (c.loop-tree.invariant names keeps calls) (c.in_ok-push_tree.ensures names keeps calls)
