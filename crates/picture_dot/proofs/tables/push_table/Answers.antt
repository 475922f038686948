use Rattle.picture_dot.proofs.Common.{after, codes, decimal, flat_map, freed_row, held_row, last, on_ok_weaker}
use Rattle.picture_dot.specs.DotPictures.{table_text, table_words}
use Rattle.picture_dot.proofs.tables.push_table.Goals as goal

-- one text behind the other
pub returns : goal.returns
unfolding table_text
returns c = on_ok_weaker c.push-3.result
    (λ put names keeps calls. after _ (codes "    b") _ _ _ c.in_ok-push.ensures.ok
    (after _ (decimal c.args.tree.now.id) _ _ _ c.in_ok-push_number.ensures.ok
    (after _ table_words _ _ _ (rw c.words_for_table.ensures at c.in_ok-push-2.ensures.ok)
    (after _ (flat_map (held_row c.args.event_writer.now.session.core names c.args.clients.now.items c.args.tree.now.strong.items)
    c.args.tree.now.held.items) _ _ _ (c.in_ok-push_held_rows.ensures names keeps calls)
    (after _ (flat_map (freed_row names) c.args.tree.now.freed.items) _ _ _
    (rw c.deref.ensures.value at (c.in_ok-push_freed_rows.ensures names keeps))
    (last _ (codes "</table>>];\n") _ put))))))
    c.push-3.ensures.ok
