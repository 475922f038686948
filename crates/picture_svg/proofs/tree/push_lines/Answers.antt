use Rattle.picture_svg.proofs.Common.{List, ap, arith, capped_sum, false, line_items, look, map, nil_from_length, svg_lines, ℕ, ◌++◌, ◌∙◌}
use Rattle.picture_svg.specs.Elements.{words_text}
use Rattle.picture_svg.proofs.Rows.{more, none}
use Rattle.picture_svg.proofs.tree.push_lines.Goals as goal

-- one more
pub lines-preserved : goal.lines-preserved
lines-preserved c =
    let x : ℕ = c.args.x in
    let y : ℕ = c.lines.y in
    let fill : List ℕ = c.args.fill.now in
    let later = map line_items c.in-Some.later.now in
    ap (λ (row : ℕ). c.push_words.new.body.items ++ svg_lines x row fill later) c.plus-y.ensures
    ∙ (more c.lines.body.items c.push_words.new.body.items (words_text x y (look 12 false fill false) (line_items c.in-Some.line.now))
    (svg_lines x (capped_sum y 16) fill later) (svg_lines x y fill (map line_items c.lines.rest.now))
    (grind (arith, c.in_ok-push_words.ensures, c.colored.ensures, c.as_slice.ensures.value))
    (ap (λ rest. svg_lines x y fill (map line_items rest)) c.in-Some.ensures.cases.0)
    ∙ c.lines.invariant)

-- none is left
pub returns : goal.returns
returns c =
    none c.lines.body.items (svg_lines c.args.x c.lines.y c.args.fill.now (map line_items c.lines.rest.now))
    (ap (λ rest. svg_lines c.args.x c.lines.y c.args.fill.now (map line_items rest))
    (nil_from_length c.lines.rest.now c.in_default.ensures.cases))
    ∙ c.lines.invariant
