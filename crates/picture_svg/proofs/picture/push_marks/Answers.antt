use Rattle.picture_svg.proofs.Common.{ap, arith, capped_sum, fact_text, marks_bottom, nil_from_length, svg_marks, sym, ℕ, ◌++◌, ◌∙◌}
use Rattle.picture_svg.specs.SvgPictures.{mark_look}
use Rattle.picture_svg.proofs.Rows.{more, none}
use Rattle.picture_svg.proofs.picture.push_marks.Goals as goal

-- one more
pub marks-preserved : goal.marks-preserved
marks-preserved c =
    let y : ℕ = c.marks.y in
    let mark = c.in-Some.mark.now in
    let later = c.in-Some.later.now in (
      ap (λ (row : ℕ). c.push_fact.new.body.items ++ svg_marks row later) c.plus-y.ensures
          ∙ (more c.marks.body.items c.push_fact.new.body.items (fact_text y (mark_look mark) mark.line.items)
          (svg_marks (capped_sum y 18) later) (svg_marks y c.marks.rest.now)
          (grind (arith, c.in_ok-push_fact.ensures, c.style_of.ensures, c.deref.ensures.value))
          (ap (svg_marks y) c.in-Some.ensures.cases.0)
          ∙ c.marks.invariant.0),
      ap (λ (row : ℕ). marks_bottom row later) c.plus-y.ensures
          ∙ (sym (ap (marks_bottom y) c.in-Some.ensures.cases.0) ∙ c.marks.invariant.1),
    )

-- none is left
pub returns-clause-text : goal.returns-clause-text
returns-clause-text c =
    none c.marks.body.items (svg_marks c.marks.y c.marks.rest.now)
    (ap (svg_marks c.marks.y) (nil_from_length c.marks.rest.now c.in_default.ensures.cases))
    ∙ c.marks.invariant.0

pub returns-clause-row : goal.returns-clause-row
returns-clause-row c =
    sym (ap (marks_bottom c.marks.y) (nil_from_length c.marks.rest.now c.in_default.ensures.cases)) ∙ c.marks.invariant.1
