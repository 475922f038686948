use Rattle.std.proofs.Common.{◌≡◌, ◌∙◌, ap, ℕ, List, ◌++◌}
use Rattle.std.proofs.lemmas.Result.{on_ok_weaker}
use Rattle.std.specs.List.{flat_map}
use Rattle.std.specs.Prelude.{codes}
use Rattle.picture_model.proofs.Texts.{after, last}
use Rattle.picture_text.specs.Outlines.{Line, line_of_row, outline}
use Rattle.picture_text.specs.TextPictures.{buffer_row, freed_row, row_text, widest}
use Rattle.picture_text.proofs.Branches.{texts_of_lines, widest_lines}
use Rattle.picture_text.proofs.picture.push_grown.Goals as goal

-- one text behind the other
pub returns : goal.returns
returns c = on_ok_weaker c.push_freed_rows.result
    (λ put names keeps calls grown.
    let lines : List Line = outline c.args.tree.now.nodes.items in
    let left = c.args.tree.now.left.items in
    let rows = c.args.rows.now.items in
    let width : ℕ = widest names lines in
    let held : ℕ → List ℕ = λ w.
    flat_map (buffer_row c.args.event_writer.now.session.core names c.args.clients.now.items w c.args.tree.now.strong.items)
    c.args.tree.now.held.items in
    let freed : ℕ → List ℕ = λ w. flat_map (freed_row names w) c.args.tree.now.freed.items in
    let wide : c.in_ok-width.width ≡ width =
    c.in_ok-width.ensures names keeps calls ∙ (widest_lines names rows ∙ ap (widest names) grown) in
    let texts : flat_map (λ r. row_text names c.in_ok-width.width left (line_of_row r)) rows ≡ flat_map (row_text names width left) lines =
    texts_of_lines (row_text names c.in_ok-width.width left) rows
    ∙ (λ i. flat_map (row_text names (wide i) left) (grown i)) in
    after _ (codes "\n") _ _ _ c.in_ok-push.ensures.ok
    (after _ (flat_map (row_text names width left) lines) _ _ _
    (rw c.deref.ensures.value at (rw c.deref-2.ensures.value at (c.in_ok-push_rows.ensures names keeps calls))
    ∙ ap (λ (t : List ℕ). c.push.new.text.items ++ t) texts)
    (after _ (held width) _ _ _
    (c.in_ok-push_held_rows.ensures names keeps calls ∙ ap (λ (w : ℕ). c.push_rows.new.text.items ++ held w) wide)
    (last _ (freed width) _
    (rw c.deref-3.ensures.value at (put names keeps) ∙ ap (λ (w : ℕ). c.push_held_rows.new.text.items ++ freed w) wide)))))
    c.push_freed_rows.ensures
