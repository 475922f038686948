use Rattle.event_facts.proofs.Common.{List, Node, above_among, ap, climb, list_any, reverse, ◌∙◌}
use Rattle.forest_store.specs.Questions.{blocks_here}
use Rattle.event_facts.proofs.failure_path.way_up.Goals as goal

-- the way ends at the first link that is blocked
pub returns : goal.returns
returns c =
    c.in_ok-way.ensures
    ∙ ((λ i. climb (λ k. c.in_ok-blocking.ensures k i) c.args.origin (above_among (reverse c.args.nodes.now.items) c.args.origin))
    ∙ ap (λ (nodes : List Node). climb (λ k. list_any (blocks_here k) nodes) c.args.origin
    (above_among (reverse c.args.nodes.now.items) c.args.origin)) c.deref.ensures.value)
