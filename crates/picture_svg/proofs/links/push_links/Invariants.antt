use Rattle.picture_svg.proofs.Common.{FindsTravels, List, Travel, box_link, flat_map, take, ◌++◌, ◌≡◌}
use Rattle.picture_svg.proofs.links.push_links.Given as goal

-- those so far
abbrev pub invariant-loop-node_box : goal.invariant-loop-node_box
invariant-loop-node_box l = (steps : List Travel) → FindsTravels l.travels steps →
    l.body.items ≡ l.initial.body.items ++ flat_map (box_link steps l.width) (take l.node_box-index l.boxes)
