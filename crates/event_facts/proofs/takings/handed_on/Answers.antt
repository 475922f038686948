use Rattle.event_facts.proofs.Common.{Node, false, filter, map, not, option_map_or, same_key, ◌&&◌, ◌∙◌}
use Rattle.event_facts.proofs.takings.handed_on.Goals as goal

-- those by which a failure came up are those on the way
pub returns : goal.returns
returns c = λ above.
    c.in_ok-rows.ensures above
    ∙ (λ i. map (λ (n : Node). n.key)
    (filter (λ (n : Node). option_map_or (λ parent. same_key above parent && not (c.in_ok-passed.ensures n.key i)) n.parent false)
    c.args.taken.now.items))
