use Rattle.picture_svg.proofs.Common.{Calls, Keeps, Names, flat_map, svg_box, take, ◌++◌, ◌≡◌}
use Rattle.picture_svg.proofs.tree.push_boxes.Given as goal

-- those so far
abbrev pub invariant-loop-node_box : goal.invariant-loop-node_box
invariant-loop-node_box l = (names : Names) → Keeps l.event_writer.session.tables names → Calls l.event_writer.labels names →
    l.body.items ≡ l.initial.body.items ++ flat_map (svg_box names l.width) (take l.node_box-index l.boxes)
