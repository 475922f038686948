use Rattle.event_texts.proofs.Common.{List, Moment, ap, append-nil, append_assoc, marks_text, nil_from_length, placed_in, sym, views_of}
use Rattle.event_texts.proofs.Common.{ℕ, ◌++◌, ◌∙◌}
use Rattle.event_facts.specs.Events.{scene_after}
use Rattle.event_texts.specs.MarkTexts.{Placed, mark_text}
use Rattle.event_texts.proofs.Marks.{placed_is}
use Rattle.event_texts.proofs.event_writer.EventWriter.push_marks.Goals as goal

-- one more mark
pub marks-preserved : goal.marks-preserved
marks-preserved c = λ names keeps.
    let free : ℕ = (views_of c.args.self.now.session.core).free in
    let after = c.args.event.now.after in
    let m : Moment = c.in-Some.moment.now in
    let later : List Moment = c.in-Some.later.now in
    let so_far : List ℕ = c.marks.facts.items in
    let placed = placed_is (λ p. p.0) (λ p. p.1.now) c.placed_by.result
    (scene_after later after) c.placed_by.ensures.buffers c.placed_by.ensures.held in
    ap (λ (t : List ℕ). t ++ marks_text names free after later)
    (c.in_ok-push_mark.ensures names keeps ∙ ap (λ (p : Placed). so_far ++ mark_text names free p m) placed)
    ∙ (append_assoc so_far (mark_text names free (placed_in (scene_after later after)) m) (marks_text names free after later)
    ∙ (ap (λ (ms : List Moment). so_far ++ marks_text names free after ms) (sym c.in-Some.ensures.cases.0)
    ∙ c.marks.invariant names keeps))

-- no mark is left
pub returns : goal.returns
returns c = λ names keeps.
    let free : ℕ = (views_of c.args.self.now.session.core).free in
    let after = c.args.event.now.after in
    sym (append-nil c.marks.facts.items)
    ∙ (ap (λ (ms : List Moment). c.marks.facts.items ++ marks_text names free after ms)
    (sym (nil_from_length c.marks.rest.now c.in_default.ensures.cases))
    ∙ (c.marks.invariant names keeps
    ∙ ap (λ (ms : List Moment). c.args.facts.now.items ++ marks_text names free after ms) c.as_slice-rest.ensures.value))
