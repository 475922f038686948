use Rattle.std.proofs.Common.{arith, sym}
use Rattle.picture_text.specs.TextPictures.{told_row}
use Rattle.picture_model.proofs.Loops.{one-more}
use Rattle.picture_text.proofs.rows.push_each_row.Goals as goal

-- one more comes last
pub loop-row-preserved : goal.loop-row-preserved
loop-row-preserved c = λ names keeps calls keys has.
    one-more (told_row names c.args.width keys) c.args.rows.now c.loop-row.row-index c.row-item.result c.args.text.now.items
    c.loop-row.text.items c.push_row.new.text.items (omega arith) (sym c.row-item.is)
    (c.loop-row.invariant names keeps calls keys has) (c.in_ok-push_row.ensures names keeps calls keys has)
