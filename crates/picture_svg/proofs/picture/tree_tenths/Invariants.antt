use Rattle.picture_svg.proofs.Common.{Calls, Keeps, Names, fold, take, ◌≡◌}
use Rattle.picture_svg.specs.SvgPictures.{node_tenths}
use Rattle.picture_svg.proofs.picture.tree_tenths.Given as goal

-- those of the nodes so far
abbrev pub invariant-loop-node : goal.invariant-loop-node
invariant-loop-node l = (names : Names) → Keeps l.event_writer.session.tables names → Calls l.event_writer.labels names →
    l.tenths ≡ fold (node_tenths names) l.start (take l.node-index l.tree.nodes.items)
