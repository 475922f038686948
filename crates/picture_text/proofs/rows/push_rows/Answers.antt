use Rattle.std.proofs.lemmas.Result.{on_ok_weaker}
use Rattle.picture_text.proofs.rows.push_rows.Goals as goal

-- those that left are those of the set
pub returns : goal.returns
returns c = on_ok_weaker c.push_each_row.result
    (λ put names keeps calls. put names keeps calls c.args.left.now c.in_ok-left.ensures)
    c.push_each_row.ensures
