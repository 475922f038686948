-- One more is placed.
use Rattle.forest_steps.proofs.Common.{◌∙◌, ap, sym, list_any, same_key}
use Rattle.forest_steps.proofs.mid_event.Listing.{placed_more}
use Rattle.forest_steps.proofs.pending_units.list_head.Goals as goal

pub returns-after-last-clause-placed : goal.returns-after-last-clause-placed
returns-after-last-clause-placed c before =
    let turn = c.pending_of-turn in
    placed_more _ _ _ _ c.push_reserved.ensures.items before (λ there. rw turn.ensures.head
    (rw c.as_slice.ensures.items at
    (turn.ensures.placed (ap (list_any (same_key c.args.key)) c.as_slice.ensures.items
    ∙ (ap (λ k. list_any (same_key k) c.args.entry.now.keys.items) (sym turn.ensures.head) ∙ there)))))
