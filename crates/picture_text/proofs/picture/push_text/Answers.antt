use Rattle.std.proofs.Common.{map}
use Rattle.std.specs.List.{flat_map}
use Rattle.core_state.specs.State.{Client}
use Rattle.picture_model.proofs.Texts.{after, last}
use Rattle.picture_text.specs.TextPictures.{fired_lines, head_text, picture_text, pool_text, tree_text}
use Rattle.picture_text.proofs.picture.push_text.Goals as goal

-- one text behind the other
pub returns-clause-text : goal.returns-clause-text
unfolding picture_text
returns-clause-text c = λ names keeps calls.
    let s = c.args.event_writer.now.session.core in
    after _ (head_text s.events c.args.line.now) _ _ _ (rw c.events.ensures.value at c.in_ok-push_head.ensures)
    (after _ (flat_map (tree_text s names (map (λ (k : Client). k.id) s.clients)) c.args.picture.now.trees.items) _ _ _
    (rw c.in_ok-clients.ensures.value at (rw c.deref.ensures.value at (c.in_ok-push_trees.ensures names keeps calls)))
    (after _ (pool_text s) _ _ _ c.in_ok-push_pool.ensures.text
    (last _ (fired_lines names s.trackers.fired) _ (rw c.fired.ensures.value at (c.in_ok-push_firings.ensures names keeps)))))
