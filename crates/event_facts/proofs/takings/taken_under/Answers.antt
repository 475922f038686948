use Rattle.event_facts.proofs.Common.{List, Node, ap, filter, not, ◌&&◌, ◌∙◌}
use Rattle.event_facts.specs.Facts.{is_lost_with}
use Rattle.event_facts.proofs.takings.taken_under.Goals as goal

-- those that are taken are those under the top one
pub returns : goal.returns
returns c =
    c.in_ok-taken.ensures
    ∙ ((λ i. filter (λ n. not n.gone && c.in_ok-under.ensures n.key i) c.args.nodes.now.items)
    ∙ ap (λ (nodes : List Node). filter (is_lost_with nodes c.args.top) c.args.nodes.now.items) c.deref.ensures.value)
