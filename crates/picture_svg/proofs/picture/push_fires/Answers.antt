use Rattle.picture_svg.proofs.Common.{ap, capped_sum, codes, fact_text, false, fires_bottom, look, nil_from_length, svg_fires, sym, ℕ}
use Rattle.picture_svg.proofs.Common.{◌++◌, ◌∙◌}
use Rattle.picture_model.specs.BoxLines.{fired_words}
use Rattle.picture_svg.proofs.Rows.{more, none}
use Rattle.picture_svg.proofs.picture.push_fires.Goals as goal

-- one more
pub firings-preserved : goal.firings-preserved
firings-preserved c =
    let y : ℕ = c.firings.y in
    let firing = c.in-Some.firing.now in
    let later = c.in-Some.later.now in (
      λ names keeps.
          ap (λ (row : ℕ). c.push_firing.new.body.items ++ svg_fires names row later) c.plus-y.ensures
          ∙ (more c.firings.body.items c.push_firing.new.body.items
          (fact_text y (look 13 false (codes "#222222") false) (fired_words names firing))
          (svg_fires names (capped_sum y 18) later) (svg_fires names y c.firings.rest.now)
          (c.in_ok-push_firing.ensures names keeps)
          (ap (svg_fires names y) c.in-Some.ensures.cases.0)
          ∙ c.firings.invariant.0 names keeps),
      ap (λ (row : ℕ). fires_bottom row later) c.plus-y.ensures
          ∙ (sym (ap (fires_bottom y) c.in-Some.ensures.cases.0) ∙ c.firings.invariant.1),
    )

-- none is left
pub returns-clause-text : goal.returns-clause-text
returns-clause-text c = λ names keeps.
    none c.firings.body.items (svg_fires names c.firings.y c.firings.rest.now)
    (ap (svg_fires names c.firings.y) (nil_from_length c.firings.rest.now c.in_default.ensures.cases))
    ∙ c.firings.invariant.0 names keeps

pub returns-clause-row : goal.returns-clause-row
returns-clause-row c =
    sym (ap (fires_bottom c.firings.y) (nil_from_length c.firings.rest.now c.in_default.ensures.cases)) ∙ c.firings.invariant.1
