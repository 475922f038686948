use Rattle.picture_dot.proofs.Common.{FindsTravels, List, Node, Travel, flat_map, link_to, take, ◌++◌, ◌≡◌}
use Rattle.picture_model.specs.Kin.{FindsNodes}
use Rattle.picture_dot.proofs.links.push_each_link.Given as goal

-- those so far
abbrev pub invariant-loop-node : goal.invariant-loop-node
invariant-loop-node l = (all : List Node) → FindsNodes l.by_key all → (links : List Travel) → FindsTravels l.travels links →
    l.text.items ≡ l.initial.text.items ++ flat_map (link_to all links) (take l.node-index l.nodes)
