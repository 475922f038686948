use Rattle.std.proofs.Common.{◌∙◌, ap, [], ◌∷◌, ◌++◌, map}
use Rattle.std.proofs.lemmas.List.{map-append}
use Rattle.picture_text.specs.Outlines.{Line, line_of_row}
use Rattle.picture_text.proofs.outline.push_next.Goals as goal

-- one more line
pub returns-clause-row : goal.returns-clause-row
returns-clause-row c =
    let rows = c.args.rows.now.items in
    ap (map line_of_row) c.in_ok-push.ensures.items
    ∙ (map-append line_of_row rows (c.in_ok-row.row ∷ []) ∙ ap (λ (l : Line). map line_of_row rows ++ l ∷ []) c.in_ok-row.ensures)
