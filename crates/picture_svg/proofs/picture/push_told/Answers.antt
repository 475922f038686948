use Rattle.picture_svg.proofs.Common.{MARGIN, ap, capped_sum, fires_bottom, marks_bottom, ℕ, ◌∙◌}
use Rattle.std.proofs.Common.{◌+◌}
use Rattle.picture_svg.specs.SvgPictures.{trees_row}
use Rattle.picture_svg.proofs.picture.push_told.Goals as goal

-- the trees begin below the marks and the firings
pub returns-clause-row : goal.returns-clause-row
unfolding trees_row
returns-clause-row c =
    let marks = c.in_ok-row.ensures.row ∙ ap (marks_bottom (MARGIN + 50)) c.deref.ensures.value in
    c.plus.ensures
    ∙ ap (λ (y : ℕ). capped_sum y 8) (c.in_ok-below.ensures.row ∙ (λ i. fires_bottom (marks i) (c.fired_since-fired.ensures i)))
