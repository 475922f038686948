use Rattle.picture_svg.proofs.Common.{ap, bars_bottom, bars_text, capped_sum, map, nil_from_length, shown_in, sym, ℕ, ◌++◌, ◌∙◌}
use Rattle.picture_svg.specs.Bars.{bar_text}
use Rattle.picture_svg.proofs.Rows.{more, none}
use Rattle.picture_svg.proofs.bars.push_rows.Goals as goal

-- one more
pub bars-preserved : goal.bars-preserved
bars-preserved c =
    let width : ℕ = c.args.width in
    let y : ℕ = c.bars.y in
    let later = map shown_in c.in-Some.later.now in (
      ap (λ (row : ℕ). c.push_bar.new.body.items ++ bars_text width row later) c.plus-y.ensures
          ∙ (more c.bars.body.items c.push_bar.new.body.items (bar_text width y (shown_in c.in-Some.bar.now))
          (bars_text width (capped_sum y 26) later) (bars_text width y (map shown_in c.bars.rest.now))
          c.in_ok-push_bar.ensures
          (ap (λ rest. bars_text width y (map shown_in rest)) c.in-Some.ensures.cases.0)
          ∙ c.bars.invariant.0),
      ap (λ (row : ℕ). bars_bottom row later) c.plus-y.ensures
          ∙ (sym (ap (λ rest. bars_bottom y (map shown_in rest)) c.in-Some.ensures.cases.0) ∙ c.bars.invariant.1),
    )

-- none is left
pub returns-clause-text : goal.returns-clause-text
returns-clause-text c =
    none c.bars.body.items (bars_text c.args.width c.bars.y (map shown_in c.bars.rest.now))
    (ap (λ rest. bars_text c.args.width c.bars.y (map shown_in rest)) (nil_from_length c.bars.rest.now c.in_default.ensures.cases))
    ∙ c.bars.invariant.0

pub returns-clause-bottom : goal.returns-clause-bottom
returns-clause-bottom c =
    sym (ap (λ rest. bars_bottom c.bars.y (map shown_in rest)) (nil_from_length c.bars.rest.now c.in_default.ensures.cases))
    ∙ c.bars.invariant.1
