use Rattle.std.proofs.lemmas.Result.{on_ok_weaker}
use Rattle.picture_model.specs.BoxLines.{camps_words, least_words, size_words}
use Rattle.picture_model.proofs.Texts.{after, last}
use Rattle.picture_model.proofs.lines.push_asked_line.Goals as goal

-- one text behind the other
pub returns : goal.returns
returns c = on_ok_weaker c.push_size.result
    (λ put. after _ (camps_words c.args.asked.camping) _ _ _ (rw c.camping.ensures.value at c.in_ok-push_camps.ensures)
    (after _ (least_words c.args.asked.at_least) _ _ _ (rw c.at_least.ensures.value at c.in_ok-push_least.ensures)
    (last _ (size_words c.args.asked.size) _ (rw c.size.ensures.value at put))))
    c.push_size.ensures
