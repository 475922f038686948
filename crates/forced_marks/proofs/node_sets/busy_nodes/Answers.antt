use Rattle.forced_marks.proofs.Common.{climbs_into, reverse, ◌∙◌}
use Rattle.forced_marks.proofs.Climbs.{busy_is}
use Rattle.forced_marks.proofs.node_sets.busy_nodes.Goals as goal

-- the climbs begin nowhere but at live nodes
pub returns : goal.returns
returns c = λ key.
    c.in_ok-climb_all.ensures key
    ∙ ((λ i. climbs_into (reverse c.args.nodes.now) (λ k. c.new-busy.ensures k i) key)
    ∙ busy_is c.args.nodes.now key c.requires)
