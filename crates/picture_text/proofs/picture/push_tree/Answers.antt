use Rattle.std.proofs.lemmas.Result.{on_ok_weaker}
use Rattle.picture_text.proofs.picture.push_tree.Goals as goal

-- the rows are those of the outline
pub returns : goal.returns
returns c = on_ok_weaker c.push_grown.result (λ put names keeps calls. put names keeps calls c.in_ok-rows.ensures) c.push_grown.ensures
