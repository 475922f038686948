use Rattle.picture_model.proofs.Common.{List, Moment, [], ap, append-nil, append_assoc, map, map-append, sym, told_in, views_of, words_of}
use Rattle.picture_model.proofs.Common.{ℕ, ◌++◌, ◌∙◌, ◌∷◌}
use Rattle.std.proofs.lemmas.List.{nil_from_length}
use Rattle.event_facts.specs.Events.{scene_after}
use Rattle.event_texts.specs.MarkTexts.{Placed, mark_text}
use Rattle.event_texts.proofs.Marks.{placed_is}
use Rattle.picture_model.specs.declared.picture.ToldMark.{ToldMark}
use Rattle.picture_model.specs.Shown.{ToldWords, first_line, is_failure}
use Rattle.picture_model.proofs.picture.told_marks.Goals as goal

-- one more mark
pub marks-preserved : goal.marks-preserved
marks-preserved c = λ names keeps.
    let free : ℕ = (views_of c.args.event_writer.now.session.core).free in
    let after = c.args.event.now.after in
    let m : Moment = c.in-Some.moment.now in
    let later : List Moment = c.in-Some.later.now in
    let told : List ToldMark = c.marks.told.items in
    let left : List ToldWords = told_in names free after later in
    let placed = placed_is (λ p. p.0) (λ p. p.1.now) c.placed_by.result
    (scene_after later after) c.placed_by.ensures.buffers c.placed_by.ensures.held in
    ap (λ (ts : List ToldMark). map words_of ts ++ left) c.in_ok-push.ensures.items
    ∙ (ap (λ (ts : List ToldWords). ts ++ left) (map-append words_of told (c.in_ok-mark.mark ∷ []))
    ∙ (append_assoc (map words_of told) (words_of c.in_ok-mark.mark ∷ []) left
    ∙ (ap (λ (w : ToldWords). map words_of told ++ w ∷ left)
    (c.in_ok-mark.ensures names keeps ∙ ap (λ (p : Placed). (is_failure m.mark, first_line (mark_text names free p m))) placed)
    ∙ (ap (λ (ms : List Moment). map words_of told ++ told_in names free after ms) (sym c.in-Some.ensures.cases.0)
    ∙ c.marks.invariant names keeps))))

-- no mark is left
pub returns : goal.returns
returns c = λ names keeps.
    let free : ℕ = (views_of c.args.event_writer.now.session.core).free in
    let after = c.args.event.now.after in
    sym (append-nil (map words_of c.marks.told.items))
    ∙ (ap (λ (ms : List Moment). map words_of c.marks.told.items ++ told_in names free after ms)
    (sym (nil_from_length c.marks.rest.now c.in_default.ensures.cases))
    ∙ (c.marks.invariant names keeps
    ∙ ap (λ (ms : List Moment). told_in names free after ms) c.as_slice-rest.ensures.value))
